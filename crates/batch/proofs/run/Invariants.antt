-- The loop of `run`: the turns so far are a run of calls, and the store, the work area and the answers keep their lengths. The measure is how many
-- requests are left. Relies on specs/Served.
use Rattle.batch.specs.Served.{SoFar}
use Rattle.requests.specs.Pieces.{requests_left}
use Rattle.std.specs.Prelude.{◌≡◌, length}
use Rattle.batch.proofs.run.Given as goal

abbrev pub invariant-loop-behind : goal.invariant-loop-behind
invariant-loop-behind l = SoFar l.initial.store l.initial.work l.calls l.initial.answers l.store l.work l.answers (requests_left l.pieces) l.done l.written × (length l.store ≡ length l.initial.store) × (length l.work ≡ length l.initial.work) × (length l.answers ≡ length l.initial.answers)

abbrev pub decreases-loop-behind : goal.decreases-loop-behind
decreases-loop-behind l = length (requests_left l.pieces)
