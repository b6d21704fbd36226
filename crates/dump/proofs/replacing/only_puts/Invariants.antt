-- The loop of `only_puts`: none of the entries passed takes a row away. Relies on specs/Replacing.
use Rattle.std.specs.Prelude.{◌≡◌}
use Rattle.node.specs.Lent.{left_of}
use Rattle.dump.specs.Replacing.{only_puts}
use Rattle.dump.proofs.replacing.only_puts.Given as goal

abbrev pub invariant-loop-entry : goal.invariant-loop-entry
invariant-loop-entry l = only_puts (left_of l.entry-iterator) ≡ only_puts (left_of l.fn.entries)
