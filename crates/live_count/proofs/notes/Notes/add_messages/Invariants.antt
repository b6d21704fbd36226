-- The loop of `add_messages`: the notes so far, and the entries left, tell what the notes before and all the entries do. Relies on specs/Notes/Steps.
use Rattle.node.specs.Lent.{left_of}
use Rattle.live_count.specs.Notes.Steps.{Noting}
use Rattle.live_count.proofs.notes.Notes.add_messages.Given as goal

abbrev pub invariant-loop-entry : goal.invariant-loop-entry
invariant-loop-entry l = Noting l.keys.low.now l.keys.high.now l.keys.after.now l.fn.self l.self (left_of l.fn.entries) (left_of l.entry-iterator)
