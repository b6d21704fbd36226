-- `script::writing::put_outcome` meets its contract: one law for each case of the outcome (specs/Steps). Assumes nothing.
use Rattle.image.specs.Prelude.{arith}
use Rattle.laws.specs.Refusals.{refusal-few}
use Rattle.script.specs.Steps.{done-wrote, refusal-wrote}
use Rattle.script.proofs.writing.put_outcome.Goals as goal

pub returns-in-Ok : goal.returns-in-Ok
returns-in-Ok c = done-wrote _ _ _ _ c.in-Ok.is c.put_text.ensures

pub put_refused-requires : goal.put_refused-requires
put_refused-requires c = let few = refusal-few c.in-Err.refusal in (omega (arith, c.from.ensures), omega arith)

pub returns-in-Err : goal.returns-in-Err
returns-in-Err c = refusal-wrote _ _ _ _ _ _ c.in-Err.is c.from.ensures c.put_refused.ensures
