-- The loop of `push_children`: the children left have room still, and what they take is what all take. Relies on specs/Laws/Written.
use Rattle.std.specs.Prelude.{◌≡◌, true}
use Rattle.image.specs.Sound.{once}
use Rattle.node.specs.Lent.{left_of}
use Rattle.node.specs.Spans.{pending_of}
use Rattle.push.specs.Laws.Written.{all_have_room, each_takes, child_takes, branch_numbers}
use Rattle.push.proofs.push_children.Given as goal

abbrev pub invariant-loop-child : goal.invariant-loop-child
invariant-loop-child l =
    (once (branch_numbers (pending_of l.child-iterator)) ≡ true)
    × (all_have_room (left_of l.entries) (pending_of l.child-iterator) l.child-iterator.high.now l.store ≡ true)
    × (each_takes (child_takes (left_of l.entries)) (pending_of l.child-iterator) l.child-iterator.high.now l.store
    ≡ each_takes (child_takes (left_of l.entries)) (pending_of l.fn.children) l.fn.children.high.now l.initial.store)
