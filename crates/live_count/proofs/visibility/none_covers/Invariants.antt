-- The loop of `none_covers`: none of the entries passed covers the rest. Relies on specs/Notes/Notes and specs/Live.
use Rattle.std.specs.Prelude.{◌≡◌}
use Rattle.node.specs.Lent.{left_of}
use Rattle.node.specs.Search.Latest.{newest_among}
use Rattle.live_count.specs.Notes.Notes.{none_covers}
use Rattle.live_count.specs.Live.{holds_no_message}
use Rattle.live_count.proofs.visibility.none_covers.Given as goal

abbrev pub invariant-loop-entry : goal.invariant-loop-entry
invariant-loop-entry l = none_covers (left_of l.entry-iterator) l.rest ≡ holds_no_message (newest_among (left_of l.fn.entries) l.rest)
