-- The loop of `is_quiet`: no note from the place on is on the key. Relies on specs/Notes/Notes.
use Rattle.std.specs.Prelude.{◌≡◌, true, drop}
use Rattle.live_count.specs.Notes.Notes.{kept, quiet}
use Rattle.live_count.proofs.notes.Notes.is_quiet.Given as goal

abbrev pub invariant-loop-i : goal.invariant-loop-i
invariant-loop-i l = quiet (drop l.i (kept l.self)) l.key ≡ true
