-- The loop of `note_trail`: the notes tell of the nodes passed, from the last on. Relies on specs/NotedSteps.
use Rattle.std.specs.Prelude.{drop}
use Rattle.std.specs.List.{list_all}
use Rattle.live_count.specs.Notes.Notes.{Gathered}
use Rattle.live_count.specs.NotedSteps.{quiet_at}
use Rattle.live_count.proofs.position.Position.note_trail.Given as goal

abbrev pub invariant-loop-depth : goal.invariant-loop-depth
invariant-loop-depth l = Gathered l.low l.high (λ k. list_all (quiet_at l.prefix k) (drop l.depth l.nodes)) l.initial.notes l.notes
