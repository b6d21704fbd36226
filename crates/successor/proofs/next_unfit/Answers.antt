-- `successor::next_unfit` meets the contract: the walk over all paths finds the least one (specs/Present).
use Rattle.image.specs.Prelude.{◌∙◌}
use Rattle.successor.specs.Present.{root-walk}
use Rattle.successor.proofs.next_unfit.Goals as goal

pub returns : goal.returns
returns c = c.walk_store.ensures.best ∙ root-walk c.args.store.now c.requires _ _ _
