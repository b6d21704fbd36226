-- `emit_branches` meets its contract: the entries of the children left, behind what is on the page. Relies on specs/BranchSteps and push/specs/WriteSteps.
use Rattle.slice.specs.BranchSteps.{pushed-child, all-none, all-off}
use Rattle.push.specs.WriteSteps.{page-fits, page-on, page-ends, whole-fits, child-small, children-small}
use Rattle.std.specs.Prelude.{[]}
use Rattle.slice.proofs.branches.emit_branches.Goals as goal

pub push-requires : goal.push-requires
push-requires c = (
  page-fits _ _ _ _ _ (all-off _ 0 [] [] _ _ c.in-Some.child c.in-Some.ensures.steps.first) c.loop-child.invariant.1 _ (pushed-child _ _ _ c.past.ensures) (whole-fits _ _ c.requires.0),
  child-small _ _ _ _ c.in-Some.ensures.steps.first c.loop-child.invariant.0,
)

pub loop-child-preserved : goal.loop-child-preserved
loop-child-preserved c = (
  children-small _ _ _ _ c.in-Some.ensures.steps.first c.loop-child.invariant.0,
  page-on _ _ _ _ _ (all-off _ 0 [] [] _ _ c.in-Some.child c.in-Some.ensures.steps.first) c.loop-child.invariant.1 _ _ (pushed-child _ _ _ c.past.ensures) c.push.ensures,
)

pub returns : goal.returns
returns c = page-ends _ _ _ (all-none _ 0 [] [] _ c.in-None.ensures.steps) c.loop-child.invariant.1
