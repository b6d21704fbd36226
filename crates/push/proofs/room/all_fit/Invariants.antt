-- The loop of `all_fit`: the children left have room if all have. Relies on specs/Laws/Written.
use Rattle.std.specs.Prelude.{◌≡◌}
use Rattle.node.specs.Lent.{left_of}
use Rattle.node.specs.Spans.{pending_of}
use Rattle.push.specs.Laws.Written.{all_have_room}
use Rattle.push.proofs.room.all_fit.Given as goal

abbrev pub invariant-loop-child : goal.invariant-loop-child
invariant-loop-child l =
    all_have_room (left_of l.entries) (pending_of l.child-iterator) l.child-iterator.high.now l.store
    ≡ all_have_room (left_of l.entries) (pending_of l.fn.children) l.fn.children.high.now l.store
