-- `script::answer_list` meets its contract: by whether the path is well formed or empty (specs/Steps). Assumes nothing.
use Rattle.std.proofs.Common.{ap, not}
use Rattle.script.specs.Steps.{list-bad-path, list-rows, list-formed}
use Rattle.script.proofs.answer_list.Goals as goal

pub returns-then-not-is_path_or_empty : goal.returns-then-not-is_path_or_empty
returns-then-not-is_path_or_empty c = list-bad-path _ _ c.requires.0 _ _ _ c.read_path-n.ensures _ c.is_path_or_empty.ensures (ap not c.if-not-is_path_or_empty.true) _ _ _ c.put_refused.ensures

pub put_rows-requires : goal.put_rows-requires
put_rows-requires c = (c.requires.0, list-formed _ _ c.is_path_or_empty.ensures (ap not c.if-not-is_path_or_empty.false))

pub returns : goal.returns
returns c = list-rows _ _ c.requires.0 _ _ _ c.read_path-n.ensures _ c.is_path_or_empty.ensures (ap not c.if-not-is_path_or_empty.false) _ _ _ c.put_rows.ensures
