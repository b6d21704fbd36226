-- The loop of `place_of`: the path's place stays between `low` and `high`, whose distance is the measure. Relies on specs/Insertion/Insertion.
use Rattle.packed.specs.Rows.Area.{rows_of}
use Rattle.dump.specs.Insertion.Insertion.{rank}
use Rattle.std.specs.Prelude.{◌+◌, ◌-◌, ◌≤◌}
use Rattle.dump.proofs.insertion.place_of.Given as goal

abbrev pub invariant-loop-low : goal.invariant-loop-low
invariant-loop-low l = (l.from ≤ l.low) × (l.low ≤ l.from + rank l.path (rows_of (l.m - l.from) l.area l.from)) × (l.from + rank l.path (rows_of (l.m - l.from) l.area l.from) ≤ l.high) × (l.high ≤ l.m)

abbrev pub decreases-loop-low : goal.decreases-loop-low
decreases-loop-low l = l.high - l.low
