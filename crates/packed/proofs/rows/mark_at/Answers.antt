-- `mark_at` meets its contract. Relies on specs/Rows/Branches.
use Rattle.packed.specs.Rows.Branches.{mark_at}
use Rattle.packed.proofs.rows.mark_at.Goals as goal

pub returns : goal.returns
unfolding mark_at
returns c = c.u16_at.ensures
