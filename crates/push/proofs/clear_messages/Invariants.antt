-- The loop of `clear_messages`: what is on the page and the entries of the children left make the page. Relies on specs/Laws/Written.
use Rattle.std.specs.Prelude.{◌≡◌, ◌++◌, true}
use Rattle.node.specs.Spans.{pending_of}
use Rattle.push.specs.Laws.Written.{child_bytes, small_numbers}
use Rattle.push.proofs.clear_messages.Given as goal

abbrev pub invariant-loop-child : goal.invariant-loop-child
invariant-loop-child l =
    (small_numbers (pending_of l.child-iterator) ≡ true)
    × (l.page ++ child_bytes (pending_of l.child-iterator) ≡ child_bytes (pending_of l.fn.children))
