-- `copy_row` meets its contract: what is set aside is the row's bytes. Relies on specs/Insertion/Moves.
use Rattle.std.proofs.Common.{ap}
use Rattle.std.specs.Prelude.{◌*◌, refl}
use Rattle.image.specs.Prelude.{arith, ap, ◌∙◌}
use Rattle.octets.specs.Put.{put}
use Rattle.dump.specs.Insertion.Moves.{row-aside}
use Rattle.dump.proofs.insertion.copy_row.Goals as goal

pub returns : goal.returns
returns c = let a = c.args in
    c.copy_at-2.ensures ∙ ap (put a.area.now (a.to * 128)) (c.copy_at.ensures ∙ row-aside _ a.area.now a.from refl (omega arith))
