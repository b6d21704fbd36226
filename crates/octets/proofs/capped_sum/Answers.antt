-- `capped_sum` is the sum up to 65,535. Relies on specs/Cap.
use Rattle.image.specs.Prelude.{arith}
use Rattle.octets.specs.Cap.{cap}
use Rattle.octets.proofs.capped_sum.Goals as goal

pub returns : goal.returns
unfolding cap
returns c = grind arith
