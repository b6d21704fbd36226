-- The loop of `has_messages`: the entries left have a message where all have. Relies on node's specs.
use Rattle.std.specs.Prelude.{◌≡◌}
use Rattle.node.specs.Lent.{left_of}
use Rattle.node.specs.Search.Messages.{has_message}
use Rattle.live_count.proofs.visibility.has_messages.Given as goal

abbrev pub invariant-loop-entry : goal.invariant-loop-entry
invariant-loop-entry l = has_message (left_of l.entry-iterator) ≡ has_message (left_of l.fn.entries)
