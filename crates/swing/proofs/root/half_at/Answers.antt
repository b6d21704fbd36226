-- `half_at` meets its contract: three numbers of the list. Relies on specs/Code.
use Rattle.std.specs.Prelude.{refl}
use Rattle.swing.specs.Code.{half-made}
use Rattle.swing.proofs.root.half_at.Goals as goal

pub returns : goal.returns
returns c = half-made _ _ _ _ _ _ refl c.number_pieces.ensures.0 c.number_pieces.ensures.1 c.number_pieces.ensures.2
