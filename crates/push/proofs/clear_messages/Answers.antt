-- `clear_messages` meets its contract: the page holds the children's entries. Relies on specs/NodeSteps and specs/WriteSteps.
use Rattle.std.specs.Prelude.{refl}
use Rattle.push.specs.WriteSteps.{page-fits, page-on, page-ends, children-none, child-off, child-small, children-small}
use Rattle.push.specs.NodeSteps.{node-emptied}
use Rattle.push.proofs.clear_messages.Goals as goal

pub push-requires : goal.push-requires
push-requires c = (
  page-fits _ _ _ _ _ (child-off _ _ _ _ c.in-Some.ensures.steps.first) c.loop-child.invariant.1 _ refl c.requires.2,
  child-small _ _ _ _ c.in-Some.ensures.steps.first c.loop-child.invariant.0,
)

pub loop-child-preserved : goal.loop-child-preserved
loop-child-preserved c = (
  children-small _ _ _ _ c.in-Some.ensures.steps.first c.loop-child.invariant.0,
  page-on _ _ _ _ _ (child-off _ _ _ _ c.in-Some.ensures.steps.first) c.loop-child.invariant.1 _ _ refl c.push.ensures,
)

pub returns : goal.returns
returns c = node-emptied _ _ _ _ _ _ (page-ends _ _ _ (children-none _ c.in-None.ensures.steps) c.loop-child.invariant.1) c.write.ensures
