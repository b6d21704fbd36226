-- The loop of `split_children`: the cut falls among the children left where it falls among all, with the same children behind it.
-- Relies on specs/Point and specs/Right.
use Rattle.std.specs.Prelude.{ℕ, ◌≡◌}
use Rattle.node.specs.Spans.{pending_of}
use Rattle.slice.specs.Point.{point_of}
use Rattle.slice.specs.Right.{rest_of}
use Rattle.slice.proofs.point.split_children.Given as goal

abbrev pub invariant-loop-child : goal.invariant-loop-child
invariant-loop-child l =
    (l.behind.high.now ≡ l.fn.children.high.now)
    × (rest_of (pending_of l.behind) l.fn.children.high.now l.k ≡ rest_of (pending_of l.fn.children) l.fn.children.high.now l.k)
    × ((n : ℕ) × (point_of n (pending_of l.behind) l.fn.children.high.now l.k ≡ point_of 0 (pending_of l.fn.children) l.fn.children.high.now l.k))
