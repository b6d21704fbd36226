-- The loop of `newest`: the latest so far, and then the entries left, say what all the entries say. Relies on specs/Search/Latest.
use Rattle.std.specs.Prelude.{◌≡◌}
use Rattle.image.specs.Meaning.{newer}
use Rattle.node.specs.Lent.{left_of, said_is}
use Rattle.node.specs.Search.Latest.{newest_among}
use Rattle.node.proofs.search.newest.Given as goal

abbrev pub invariant-loop-entry : goal.invariant-loop-entry
invariant-loop-entry l = newer (said_is l.latest) (newest_among (left_of l.entry-iterator) l.rest) ≡ newest_among (left_of l.fn.entries) l.rest
