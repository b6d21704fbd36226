-- `outcome_number` meets its contract. Relies on laws' Refusals.
use Rattle.image.specs.Prelude.{arith}
use Rattle.image.specs.Answers.{outcome_number}
use Rattle.laws.specs.Refusals.{refusal-few}
use Rattle.requests.proofs.outcome_number.Goals as goal

pub returns-in-Err : goal.returns-in-Err
unfolding outcome_number
returns-in-Err c = let few = refusal-few c.in-Err.refusal in (rw c.in-Err.is c.from.ensures, omega (arith, c.from.ensures))
