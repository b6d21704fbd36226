-- The loop of `count_numbers`: the numbers so far are listed in their order. Relies on specs/Build/Handed and specs/Form/Packed.
use Rattle.packed.specs.Build.Handed.{listed}
use Rattle.packed.specs.Form.Packed.{numbers_from}
use Rattle.std.specs.Prelude.{◌≡◌}
use Rattle.packed.proofs.count_numbers.Given as goal

abbrev pub invariant-loop-k : goal.invariant-loop-k
invariant-loop-k l = listed l.k l.numbers 0 ≡ numbers_from l.first l.k
