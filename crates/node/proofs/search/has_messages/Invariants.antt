-- The loop of `has_messages`: a message is among the entries left if one is among all. Relies on specs/Search/Messages.
use Rattle.std.specs.Prelude.{◌≡◌}
use Rattle.node.specs.Lent.{left_of}
use Rattle.node.specs.Search.Messages.{has_message}
use Rattle.node.proofs.search.has_messages.Given as goal

abbrev pub invariant-loop-entry : goal.invariant-loop-entry
invariant-loop-entry l = has_message (left_of l.entry-iterator) ≡ has_message (left_of l.fn.entries)
