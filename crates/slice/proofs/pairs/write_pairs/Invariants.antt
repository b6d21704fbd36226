-- The loop of `write_pairs`: what is on the page and what the entries left give make the page. Relies on specs/Point.
use Rattle.std.specs.Prelude.{◌≡◌, ◌++◌, List, ℕ, Bool}
use Rattle.node.specs.Lent.{left_of}
use Rattle.push.specs.Sides.{Tells}
use Rattle.slice.specs.Point.{side_line}
use Rattle.slice.proofs.pairs.write_pairs.Given as goal

abbrev pub invariant-loop-entry : goal.invariant-loop-entry
invariant-loop-entry g l =
    goal.F-IsAlwaysCallable g l.keeps
    × ((test : List ℕ → Bool) → Tells (goal.F-post g l.keeps) test
    → l.page ++ side_line test l.d (left_of l.entry-iterator) ≡ side_line test l.d (left_of l.fn.leaf))
