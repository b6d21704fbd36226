-- The loop of `owner_of`: the owner is among the children left. Relies on specs/Search/Own.
use Rattle.std.specs.Prelude.{◌≡◌}
use Rattle.node.specs.Spans.{pending_of}
use Rattle.node.specs.Search.Own.{owner_of}
use Rattle.node.proofs.search.owner_of.Given as goal

abbrev pub invariant-loop-branch : goal.invariant-loop-branch
invariant-loop-branch l = owner_of (pending_of l.branch-iterator) l.branch-iterator.high.now l.rest ≡ owner_of (pending_of l.fn.branches) l.fn.branches.high.now l.rest
