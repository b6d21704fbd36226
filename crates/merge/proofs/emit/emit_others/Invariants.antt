-- The loop of `emit_others`: what is on the page and what is written of the entries left make the page. Relies on specs/Laws/Joined.
use Rattle.std.specs.Prelude.{◌≡◌, ◌++◌, true}
use Rattle.laws.specs.Encode.{bytes_of_all}
use Rattle.node.specs.Lent.{left_of}
use Rattle.merge.specs.Laws.Joined.{without_child, small_entries}
use Rattle.merge.proofs.emit.emit_others.Given as goal

abbrev pub invariant-loop-entry : goal.invariant-loop-entry
invariant-loop-entry l =
    (small_entries (left_of l.entry-iterator) ≡ true)
    × (l.page ++ bytes_of_all (without_child l.gone (left_of l.entry-iterator)) ≡ l.initial.page ++ bytes_of_all (without_child l.gone (left_of l.fn.entries)))
