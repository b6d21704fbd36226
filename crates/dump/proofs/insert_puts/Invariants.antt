-- The loop of `insert_puts`: the rows so far, with the entries left, make the same table. The measure is how many are left. Relies on specs/Dump
-- and specs/InsertSteps.
use Rattle.std.specs.Prelude.{◌-◌, length}
use Rattle.live_count.specs.Walk.{passing}
use Rattle.node.specs.Lent.{left_of}
use Rattle.packed.specs.Rows.Area.{rows_of}
use Rattle.dump.specs.Dump.{insert_among}
use Rattle.dump.specs.InsertSteps.{Inserting}
use Rattle.dump.proofs.insert_puts.Given as goal

abbrev pub invariant-loop-entry : goal.invariant-loop-entry
invariant-loop-entry l = Inserting l.first l.fn.area l.area l.m (passing l.trail) l.prefix (left_of l.later) (insert_among (passing l.trail) l.prefix (left_of l.entries) (rows_of (l.first - l.first) l.fn.area l.first))

abbrev pub decreases-loop-entry : goal.decreases-loop-entry
decreases-loop-entry l = length (left_of l.later)
