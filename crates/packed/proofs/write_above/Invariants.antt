-- The loop of `write_above`: the levels so far and those still to be written make the tree. The measure is the levels left of eight. Relies on
-- specs/Build/Passes and specs/Form/Tidy.
use Rattle.packed.specs.Build.Passes.{tree_above, pages_above, Ascends}
use Rattle.packed.specs.Form.Tidy.{write_all}
use Rattle.std.specs.Prelude.{◌-◌}
use Rattle.packed.proofs.write_above.Given as goal

abbrev pub invariant-loop-count : goal.invariant-loop-count
invariant-loop-count l = Ascends l.m l.numbers l.initial.area l.area l.initial.store l.store l.level l.used l.count (tree_above l.m l.numbers l.initial.area l.made) (write_all (pages_above l.m l.numbers l.initial.area l.made) l.initial.store)

abbrev pub decreases-loop-count : goal.decreases-loop-count
decreases-loop-count l = 8 - l.level
