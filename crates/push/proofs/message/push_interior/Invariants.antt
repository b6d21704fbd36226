-- The loop of `push_interior`: what is on the page and what the entries left bring make the child's page. Relies on specs/Laws/Written.
use Rattle.std.specs.Prelude.{◌≡◌, ◌++◌}
use Rattle.node.specs.Lent.{left_of}
use Rattle.push.specs.Laws.Arriving.{brought_all}
use Rattle.push.specs.Laws.Written.{body_of}
use Rattle.push.proofs.message.push_interior.Given as goal

abbrev pub invariant-loop-entry : goal.invariant-loop-entry
invariant-loop-entry l =
    l.page ++ brought_all (left_of l.entry-iterator) l.child.low.now l.child.high.now
    ≡ body_of l.store l.child.number ++ brought_all (left_of l.fn.entries) l.child.low.now l.child.high.now
