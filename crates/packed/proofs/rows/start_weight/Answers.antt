-- `start_weight` meets its contract. Relies on specs/Rows/Remark.
use Rattle.std.specs.Prelude.{length, ◌+◌}
use Rattle.image.specs.Prelude.{ap, arith}
use Rattle.packed.specs.Rows.Remark.{start_weight}
use Rattle.packed.proofs.rows.start_weight.Goals as goal

pub returns : goal.returns
unfolding start_weight
returns c = (ap (λ l. 6 + length l) c.low_pivot.ensures.0, omega arith)
