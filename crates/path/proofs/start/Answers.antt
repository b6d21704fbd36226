-- `start` meets its contract. Relies on specs/Fed.
use Rattle.std.specs.Prelude.{refl}
use Rattle.path.specs.Fed.{shape_is}
use Rattle.path.proofs.start.Goals as goal

pub returns : goal.returns
unfolding shape_is
returns c = refl
