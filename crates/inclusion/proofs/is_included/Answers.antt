-- `inclusion::is_included` meets its contract: the walk over all paths decides (specs/Root).
use Rattle.image.specs.Prelude.{◌∙◌}
use Rattle.inclusion.specs.Root.{root-decides}
use Rattle.inclusion.proofs.is_included.Goals as goal

pub returns : goal.returns
returns c = c.walk_store.ensures.held ∙ root-decides c.args.store.now c.args.other.now c.requires.0 c.requires.1
