-- The loop of `free_list`: the numbers listed so far and the unmarked ones from i on are all unmarked ones. Relies on specs/Spare/Spare.
use Rattle.std.specs.Prelude.{◌+◌, ◌-◌, ◌≤◌, ◌≡◌, ◌++◌}
use Rattle.packed.specs.Build.Handed.{listed}
use Rattle.swing.specs.Spare.Spare.{unmarked}
use Rattle.swing.proofs.spare.free_list.Given as goal

abbrev pub invariant-loop-i : goal.invariant-loop-i
invariant-loop-i l = (l.count + 1 ≤ l.i) × (l.count ≤ l.n) × (listed l.count l.numbers 0 ++ unmarked (l.n - l.i) l.i l.seen ≡ unmarked (l.n - 1) 1 l.seen)
