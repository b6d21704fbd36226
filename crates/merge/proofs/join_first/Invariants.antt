-- The loop of `join_first`: the search among the child in hand and those left is the search among all. Relies on specs/JoinSteps.
use Rattle.node.specs.Lent.{left_of}
use Rattle.node.specs.Spans.{pending_of}
use Rattle.merge.specs.JoinSteps.{Searching}
use Rattle.merge.proofs.join_first.Given as goal

abbrev pub invariant-loop-right : goal.invariant-loop-right
invariant-loop-right l =
    Searching l.parent.num l.parent.level (left_of l.parent.entries) l.initial.store (pending_of l.fn.children) l.fn.children.high.now l.store l.left.number l.left.low.now l.left.high.now
    (pending_of l.right-iterator) l.right-iterator.high.now
