-- The loop of `emit_entries`: what is on the page and the entries left make the page. Relies on specs/Laws/Joined.
use Rattle.std.specs.Prelude.{◌≡◌, ◌++◌, true}
use Rattle.laws.specs.Encode.{bytes_of_all}
use Rattle.node.specs.Lent.{left_of}
use Rattle.merge.specs.Laws.Joined.{prefixed_all, small_entries}
use Rattle.merge.proofs.emit.emit_entries.Given as goal

abbrev pub invariant-loop-entry : goal.invariant-loop-entry
invariant-loop-entry l =
    (small_entries (left_of l.entry-iterator) ≡ true)
    × (l.page ++ bytes_of_all (prefixed_all l.more (left_of l.entry-iterator)) ≡ l.initial.page ++ bytes_of_all (prefixed_all l.more (left_of l.fn.entries)))
