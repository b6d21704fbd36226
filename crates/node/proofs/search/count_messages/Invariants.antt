-- The loop of `count_messages`: those counted and those left are all. Relies on specs/Search/Messages.
use Rattle.std.specs.Prelude.{◌≡◌, ◌+◌}
use Rattle.node.specs.Lent.{left_of}
use Rattle.node.specs.Search.Messages.{messages_among}
use Rattle.node.proofs.search.count_messages.Given as goal

abbrev pub invariant-loop-entry : goal.invariant-loop-entry
invariant-loop-entry l = l.count + messages_among (left_of l.entry-iterator) ≡ messages_among (left_of l.fn.entries)
