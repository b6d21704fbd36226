-- `weigh_entries` meets its contract: the sum so far and the entries left weigh what all do. Relies on specs/WeighSteps.
use Rattle.image.specs.Prelude.{arith}
use Rattle.node.specs.Lent.{entry_is}
use Rattle.merge.specs.WeighSteps.{weight-small, first_light, weighs-none, weighs-on, weighs-over}
use Rattle.merge.proofs.weigh.weigh_entries.Goals as goal

pub weigh_entry-requires : goal.weigh_entry-requires
weigh_entry-requires c = ((first_light _ _ _ c.in-Some.ensures.steps c.loop-entry.invariant.0).0, c.requires.1)

pub returns-in_err-sum : goal.returns-in_err-sum
returns-in_err-sum c =
    let w = c.in_err-sum.ensures in
    rw c.from_residual.ensures (weighs-over _ _ _ _ c.loop-entry.invariant.2 _ _ c.in-Some.ensures.steps c.loop-entry.invariant.1 (omega arith))

pub overflow_add-sum : goal.overflow_add-sum
overflow_add-sum c =
    let w = c.in_ok-sum.ensures in
    let z = weight-small c.args.more (entry_is c.in-Some.entry) in
    let f = (first_light _ _ _ c.in-Some.ensures.steps c.loop-entry.invariant.0).0 in
    omega arith

pub returns-then-over : goal.returns-then-over
returns-then-over c =
    let w = c.in_ok-sum.ensures in weighs-over _ _ _ _ c.loop-entry.invariant.2 _ _ c.in-Some.ensures.steps c.loop-entry.invariant.1 (omega arith)

pub loop-entry-preserved : goal.loop-entry-preserved
loop-entry-preserved c = (
  (first_light _ _ _ c.in-Some.ensures.steps c.loop-entry.invariant.0).1,
  omega arith,
  weighs-on _ _ _ _ c.loop-entry.invariant.2 _ _ c.in-Some.ensures.steps c.loop-entry.invariant.1 _ c.in_ok-sum.ensures,
)

pub returns : goal.returns
returns c = (weighs-none _ _ _ _ c.loop-entry.invariant.2 c.in-None.ensures.steps.0, c.loop-entry.invariant.1)
