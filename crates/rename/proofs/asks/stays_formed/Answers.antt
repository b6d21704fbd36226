-- `stays_formed` meets its contract. Relies on specs/Asks/Walk.
use Rattle.std.proofs.Common.{rules}
use Rattle.rename.specs.Asks.Walk.{nine-quick, nine-walk}
use Rattle.rename.proofs.asks.stays_formed.Goals as goal

pub returns-then-no_wider : goal.returns-then-no_wider
returns-then-no_wider c = nine-quick _ _ _ c.requires.0 c.requires.1 c.requires.2 _ _ _ c.start-start.ensures c.feed-old.ensures c.feed-new.ensures _ c.no_wider.ensures c.if-no_wider.true

pub returns : goal.returns
returns c = nine-walk _ _ _ c.requires.0 c.requires.1 c.requires.2 _ _ _ c.start-start.ensures c.feed-old.ensures c.feed-new.ensures _ c.no_wider.ensures _ c.rests_fit.ensures
