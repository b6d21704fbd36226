-- `put_past` meets its contract: a path and one byte are one put. Relies on specs/Code.
use Rattle.swing.specs.Code.{past-put}
use Rattle.std.specs.Prelude.{refl}
use Rattle.swing.proofs.put_past.Goals as goal

pub returns : goal.returns
returns c = past-put _ _ _ _ c.requires c.copy_at.ensures refl
