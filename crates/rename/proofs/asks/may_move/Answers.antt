-- `may_move` meets its contract. Relies on specs/Asks/Walk.
use Rattle.std.proofs.Common.{rules}
use Rattle.rename.specs.Asks.Walk.{first-nests, second-says}
use Rattle.rename.proofs.asks.may_move.Goals as goal

pub returns-then-begins_properly : goal.returns-then-begins_properly
returns-then-begins_properly c = search (rules, first-nests)

pub returns : goal.returns
returns c = search (rules, second-says)
