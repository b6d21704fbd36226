-- The loop of `add_notes`: the notes so far tell what the notes before and the others passed do. Relies on specs/Notes/Notes.
use Rattle.std.specs.Prelude.{◌++◌, take}
use Rattle.live_count.specs.Notes.Notes.{Gathered, quiet, kept}
use Rattle.live_count.proofs.notes.Notes.add_notes.Given as goal

abbrev pub invariant-loop-i : goal.invariant-loop-i
invariant-loop-i l = Gathered l.keys.low.now l.keys.high.now (λ k. quiet (take l.i (kept l.others)) (l.keys.after.now ++ k)) l.fn.self l.self
