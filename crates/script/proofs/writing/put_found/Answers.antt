-- `script::writing::put_found` meets its contract: one law for each case of what get found (specs/Steps). Assumes nothing.
use Rattle.image.specs.Prelude.{arith}
use Rattle.laws.specs.Refusals.{refusal-few}
use Rattle.script.specs.Steps.{found-length, part-short, value-ends, value-wrote, absent-wrote}
use Rattle.image.specs.Path.{value_limit}
use Rattle.script.proofs.writing.put_found.Goals as goal

pub slice_bounds-put_value-end : goal.slice_bounds-put_value-end
slice_bounds-put_value-end c = let l = found-length _ _ value_limit c.in-Ok.is c.requires.0 in omega arith

pub put_value-at-requires : goal.put_value-at-requires
put_value-at-requires c = (part-short _ _ value_limit (found-length _ _ value_limit c.in-Ok.is c.requires.0), omega arith)

pub put_byte-requires : goal.put_byte-requires
put_byte-requires c = omega (arith, value-ends _ _ _ _ _ c.put_value-at.ensures (part-short _ _ value_limit (found-length _ _ value_limit c.in-Ok.is c.requires.0)))

pub returns-in-Ok : goal.returns-in-Ok
returns-in-Ok c = value-wrote _ _ _ _ _ _ c.in-Ok.is _ _ c.put_value-at.ensures c.put_byte.ensures

pub put_refused-requires : goal.put_refused-requires
put_refused-requires c = let few = refusal-few c.in-Err.refusal in (omega (arith, c.from.ensures), omega arith)

pub returns-in-Err : goal.returns-in-Err
returns-in-Err c = absent-wrote _ _ _ _ _ _ _ c.in-Err.is c.from.ensures c.put_refused.ensures
