-- `is_path` meets its contract. Relies on specs/Fed.
use Rattle.path.specs.Fed.{shape_is, path-is}
use Rattle.path.proofs.is_path.Goals as goal

pub returns : goal.returns
unfolding shape_is
returns c = path-is _ _ c.goes_on.ensures
