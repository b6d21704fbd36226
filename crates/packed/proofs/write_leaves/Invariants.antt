-- The loop of `write_leaves`: the leaves so far and those still to be written make all. The measure is how many rows are left. Relies on
-- specs/Build/LeafSteps.
use Rattle.packed.specs.Build.LeafSteps.{LeafTurns}
use Rattle.std.specs.Prelude.{◌-◌}
use Rattle.packed.proofs.write_leaves.Given as goal

abbrev pub invariant-loop-i : goal.invariant-loop-i
invariant-loop-i l = LeafTurns l.m l.numbers l.initial.area l.area l.initial.store l.store l.i l.made

abbrev pub decreases-loop-i : goal.decreases-loop-i
decreases-loop-i l = l.m - l.i
