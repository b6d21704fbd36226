-- `any_below` meets its contract. Relies on specs/Asks/Walk.
use Rattle.image.specs.Prelude.{◌∙◌}
use Rattle.rename.specs.Asks.Walk.{eight_is}
use Rattle.rename.proofs.asks.any_below.Goals as goal

pub returns : goal.returns
returns c = c.is_some.ensures ∙ eight_is _ _ _ c.requires c.next_path.ensures
