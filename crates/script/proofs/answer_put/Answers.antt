-- `script::answer_put` meets its contract: the call's contract, as the text of a line (specs/Steps). Assumes nothing.
use Rattle.image.specs.Prelude.{arith}
use Rattle.script.specs.Steps.{put-bad, put-answered, value_length}
use Rattle.script.proofs.answer_put.Goals as goal

pub returns-in_default : goal.returns-in_default
returns-in_default c = put-bad _ _ c.requires.0 _ _ _ _ c.read_value-parsed.ensures c.in_default.is _ _ _ c.put_bad.ensures

pub slice_bounds-put-end-2 : goal.slice_bounds-put-end-2
slice_bounds-put-end-2 c = let l = value_length _ _ _ _ c.read_value-parsed.ensures c.in-Some.is in omega arith

pub returns : goal.returns
returns c = put-answered _ _ c.requires.0 _ _ _ c.read_path-n.ensures _ c.requires.1 _ _ _ _ _ _ c.put_outcome.ensures _ _ _ _ c.read_value-parsed.ensures c.in-Some.is c.put-outcome.ensures
