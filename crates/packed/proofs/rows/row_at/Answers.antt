-- `row_at` meets its contract. Relies on specs/Rows/Area.
use Rattle.std.proofs.lemmas.Slice.{between_to_end}
use Rattle.image.specs.Prelude.{arith}
use Rattle.packed.specs.Rows.Area.{row-is}
use Rattle.packed.proofs.rows.row_at.Goals as goal

pub returns : goal.returns
returns c = row-is _ _ c.requires _ _ (between_to_end c.args.area.now _ _ (omega arith)) (between_to_end c.args.area.now _ _ (omega arith))
