-- The loop of `emit_pairs`: what is on the page and what is kept of the entries left make the page. Relies on specs/Laws/Leaves.
use Rattle.std.specs.Prelude.{◌≡◌, ◌++◌, List, ℕ, Bool}
use Rattle.laws.specs.Encode.{bytes_of_all}
use Rattle.node.specs.Lent.{left_of}
use Rattle.push.specs.Laws.Leaves.{kept}
use Rattle.push.specs.Sides.{Tells}
use Rattle.push.proofs.leaf.emit_pairs.Given as goal

abbrev pub invariant-loop-entry : goal.invariant-loop-entry
invariant-loop-entry g l =
    goal.F-IsAlwaysCallable g l.keeps
    × ((test : List ℕ → Bool) → Tells (goal.F-post g l.keeps) test
    → l.page ++ bytes_of_all (kept test (left_of l.entry-iterator)) ≡ l.initial.page ++ bytes_of_all (kept test (left_of l.fn.leaf)))
