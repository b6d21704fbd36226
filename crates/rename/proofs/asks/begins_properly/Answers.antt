-- `begins_properly` meets its contract. Relies on specs/Asks/Walk.
use Rattle.rename.specs.Asks.Walk.{not-begins, begins-or-same}
use Rattle.rename.proofs.asks.begins_properly.Goals as goal

pub returns-then-not-begins_with : goal.returns-then-not-begins_with
returns-then-not-begins_with c = not-begins _ _ _ c.begins_with.ensures c.if-not-begins_with.true

pub returns : goal.returns
returns c = begins-or-same _ _ _ _ c.begins_with.ensures c.if-not-begins_with.false c.equal.ensures
