-- The loop of `emit_left`: what is on the page and the entries that the children left give make the page, and the cut falls among these where it falls
-- among all. Relies on specs/Point.
use Rattle.std.specs.Prelude.{ℕ, ◌≡◌, ◌++◌, true}
use Rattle.node.specs.Spans.{pending_of}
use Rattle.push.specs.Laws.Written.{small_numbers}
use Rattle.slice.specs.Point.{before_line, point_of}
use Rattle.slice.proofs.branches.emit_left.Given as goal

abbrev pub invariant-loop-child : goal.invariant-loop-child
invariant-loop-child l =
    (small_numbers (pending_of l.child-iterator) ≡ true)
    × (l.child-iterator.high.now ≡ l.fn.children.high.now)
    × (l.page ++ before_line l.d l.num (pending_of l.child-iterator) l.fn.children.high.now l.k
    ≡ l.initial.page ++ before_line l.d l.num (pending_of l.fn.children) l.fn.children.high.now l.k)
    × ((n : ℕ) × (point_of n (pending_of l.child-iterator) l.fn.children.high.now l.k ≡ point_of 0 (pending_of l.fn.children) l.fn.children.high.now l.k))
