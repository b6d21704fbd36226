-- The loop of `write_level`: the nodes of the level so far and those still to be written make all. The measure is how many rows are left. Relies on
-- specs/Build/LevelSteps.
use Rattle.packed.specs.Build.LevelSteps.{NodeTurns}
use Rattle.std.specs.Prelude.{◌-◌}
use Rattle.packed.proofs.write_level.Given as goal

abbrev pub invariant-loop-i : goal.invariant-loop-i
invariant-loop-i l = NodeTurns l.level l.m l.numbers l.from l.initial.area l.area l.initial.store l.store l.i l.made

abbrev pub decreases-loop-i : goal.decreases-loop-i
decreases-loop-i l = l.m - l.i
