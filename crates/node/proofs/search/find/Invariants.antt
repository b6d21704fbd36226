-- The loop of `find`: the pair is among the entries left. Relies on specs/Search/Pairs.
use Rattle.std.specs.Prelude.{◌≡◌}
use Rattle.node.specs.Lent.{left_of}
use Rattle.node.specs.Search.Pairs.{find_among}
use Rattle.node.proofs.search.find.Given as goal

abbrev pub invariant-loop-entry : goal.invariant-loop-entry
invariant-loop-entry l = find_among (left_of l.entry-iterator) l.rest ≡ find_among (left_of l.fn.entries) l.rest
