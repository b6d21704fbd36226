-- `push_children` meets its contract: the child in hand takes its messages, and those after it have room still. Relies on specs/ChildSteps.
use Rattle.image.specs.Prelude.{ap, ◌∙◌}
use Rattle.node.specs.Lent.{left_of}
use Rattle.node.specs.Spans.{pending_of}
use Rattle.push.specs.Laws.Written.{all_have_room, each_takes, child_takes}
use Rattle.push.specs.ChildSteps.{takes_none, child-room, later-once, later-room, takes_on}
use Rattle.push.proofs.push_children.Goals as goal

pub push_child-requires : goal.push_child-requires
push_child-requires c = child-room _ _ _ _ _ _ _ _ c.in-Some.ensures.steps.first c.in-Some.ensures.steps.ends c.loop-child.invariant.1

pub loop-child-preserved : goal.loop-child-preserved
loop-child-preserved c = (
  later-once (left_of c.args.entries) _ c.loop-child.store _ _ _ _ _ c.in-Some.ensures.steps.first c.in-Some.ensures.steps.ends c.loop-child.invariant.0,
  ap (λ h. all_have_room (left_of c.args.entries) (pending_of c.next.new.self) h c.push_child.new.store) c.in-Some.ensures.steps.keeps
      ∙ later-room _ _ _ _ _ _ _ _ c.in-Some.ensures.steps.first c.in-Some.ensures.steps.ends _ c.push_child.ensures c.loop-child.invariant.0 c.loop-child.invariant.1,
  ap (λ h. each_takes (child_takes (left_of c.args.entries)) (pending_of c.next.new.self) h c.push_child.new.store) c.in-Some.ensures.steps.keeps
      ∙ takes_on _ _ _ _ _ _ _ _ c.in-Some.ensures.steps.first c.in-Some.ensures.steps.ends _ c.push_child.ensures _ c.loop-child.invariant.2,
)

pub returns : goal.returns
returns c = takes_none _ _ _ _ _ c.in-None.ensures.steps c.loop-child.invariant.2
