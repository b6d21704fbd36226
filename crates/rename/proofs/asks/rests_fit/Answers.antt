-- `rests_fit` meets its contract. Relies on specs/Asks/Walk.
use Rattle.rename.specs.Asks.Walk.{rests-are}
use Rattle.rename.proofs.asks.rests_fit.Goals as goal

pub returns : goal.returns
returns c = rests-are _ _ _ _ c.requires c.next_unfit.ensures _ c.is_none.ensures
