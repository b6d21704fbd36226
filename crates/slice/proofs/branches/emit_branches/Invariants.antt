-- The loop of `emit_branches`: what is on the page and the entries of the children left make the page. Relies on specs/Right.
use Rattle.std.specs.Prelude.{◌≡◌, ◌++◌, true}
use Rattle.node.specs.Spans.{pending_of}
use Rattle.push.specs.Laws.Written.{small_numbers}
use Rattle.slice.specs.Right.{all_line}
use Rattle.slice.proofs.branches.emit_branches.Given as goal

abbrev pub invariant-loop-child : goal.invariant-loop-child
invariant-loop-child l =
    (small_numbers (pending_of l.child-iterator) ≡ true)
    × (l.page ++ all_line l.d (pending_of l.child-iterator) ≡ l.initial.page ++ all_line l.d (pending_of l.fn.children))
