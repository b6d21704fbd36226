-- The loop of `merge_rows`: the rows up to `done` are merged, and those behind are as they were. The measure is the rows behind `done`. Relies on
-- specs/Insertion/Insertion.
use Rattle.std.specs.Prelude.{◌-◌, ◌≤◌, ◌≡◌, length}
use Rattle.dump.specs.Insertion.Insertion.{Merged}
use Rattle.dump.proofs.insertion.merge_rows.Given as goal

abbrev pub invariant-loop-done : goal.invariant-loop-done
invariant-loop-done l = (l.middle ≤ l.done) × (l.done ≤ l.end) × (length l.area ≡ length l.initial.area) × Merged l.initial.area l.area l.first l.middle l.done

abbrev pub decreases-loop-done : goal.decreases-loop-done
decreases-loop-done l = l.end - l.done
