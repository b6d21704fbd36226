-- The loop of `push_leaf`: the entries left have room still, and what they leave is what all leave. Relies on specs/Laws/Leaves.
use Rattle.std.specs.Prelude.{◌≡◌, true}
use Rattle.node.specs.Lent.{left_of}
use Rattle.push.specs.Laws.Leaves.{leaf_takes}
use Rattle.push.specs.Laws.Written.{has_room}
use Rattle.push.proofs.leaf.push_leaf.Given as goal

abbrev pub invariant-loop-entry : goal.invariant-loop-entry
invariant-loop-entry l =
    (has_room (left_of l.entry-iterator) l.child.number l.child.low.now l.child.high.now l.store ≡ true)
    × (leaf_takes (left_of l.entry-iterator) l.child.number l.child.low.now l.child.high.now l.store
    ≡ leaf_takes (left_of l.fn.entries) l.child.number l.child.low.now l.child.high.now l.initial.store)
