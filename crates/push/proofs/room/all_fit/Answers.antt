-- `all_fit` meets its contract: each child has room, or one has none. Relies on specs/ReadSteps.
use Rattle.std.proofs.Common.{rules}
use Rattle.image.specs.Prelude.{ap, ◌∙◌}
use Rattle.node.specs.Lent.{left_of}
use Rattle.node.specs.Spans.{pending_of}
use Rattle.push.specs.Laws.Written.{all_have_room}
use Rattle.push.specs.ReadSteps.{rooms-none, rooms-no, rooms-on}
use Rattle.push.proofs.room.all_fit.Goals as goal

pub returns-then-not-child_fits : goal.returns-then-not-child_fits
returns-then-not-child_fits c = rooms-no _ _ _ _ _ c.loop-child.invariant _ _ _ _ c.in-Some.ensures.steps.first c.in-Some.ensures.steps.ends (search rules)

pub loop-child-preserved : goal.loop-child-preserved
loop-child-preserved c =
    ap (λ h. all_have_room (left_of c.args.entries) (pending_of c.next.new.self) h c.args.store.now) c.in-Some.ensures.steps.keeps
    ∙ rooms-on _ _ _ _ _ c.loop-child.invariant _ _ _ _ c.in-Some.ensures.steps.first c.in-Some.ensures.steps.ends (search rules)

pub returns : goal.returns
returns c = rooms-none _ _ _ _ _ c.loop-child.invariant c.in-None.ensures.steps
