-- The loop of `move_rows`: the rows from `at` on are moved. Relies on specs/Insertion/Moves.
use Rattle.std.specs.Prelude.{◌≡◌, ◌≤◌}
use Rattle.dump.specs.Insertion.Moves.{moved}
use Rattle.dump.proofs.insertion.move_rows.Given as goal

abbrev pub invariant-loop-at : goal.invariant-loop-at
invariant-loop-at l = (l.i ≤ l.at) × (l.area ≡ moved l.initial.area l.m l.by l.at)
