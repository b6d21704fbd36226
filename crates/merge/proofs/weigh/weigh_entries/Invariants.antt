-- The loop of `weigh_entries`: the sum so far and the entries left weigh what all do. Relies on specs/Laws/Joined.
use Rattle.std.specs.Prelude.{length, ◌≡◌, ◌≤◌}
use Rattle.laws.specs.Encode.{bytes_of_all}
use Rattle.node.specs.Lent.{left_of}
use Rattle.merge.specs.Laws.Joined.{weights}
use Rattle.merge.proofs.weigh.weigh_entries.Given as goal

abbrev pub invariant-loop-entry : goal.invariant-loop-entry
invariant-loop-entry l =
    (length (bytes_of_all (left_of l.entry-iterator)) ≤ 1016)
    × (l.sum ≤ 1016)
    × (weights l.more (left_of l.entry-iterator) l.sum ≡ weights l.more (left_of l.fn.entries) l.used)
