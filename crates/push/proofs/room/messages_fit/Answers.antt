-- `messages_fit` meets its contract: the sum so far and what the entries left bring make the sum of all. Relies on specs/ReadSteps.
use Rattle.std.specs.Prelude.{length}
use Rattle.image.specs.Prelude.{arith, ap}
use Rattle.push.specs.ReadSteps.{brought-short, rest-short, fit-end, fit-step, fit-skip}
use Rattle.push.proofs.room.messages_fit.Goals as goal

pub message_size-sum-requires : goal.message_size-sum-requires
message_size-sum-requires c =
    let z = brought-short _ _ _ c.in-Some.ensures.steps c.loop-entry.invariant.0 c.args.child.low.now c.args.child.high.now in
    let w = ap length c.in-Some-brought.ensures.bytes in
    omega arith

pub overflow_add-sum : goal.overflow_add-sum
overflow_add-sum c =
    let z = brought-short _ _ _ c.in-Some.ensures.steps c.loop-entry.invariant.0 c.args.child.low.now c.args.child.high.now in
    let w = ap length c.in-Some-brought.ensures.bytes in
    omega arith

pub loop-entry-preserved-in-Some-brought : goal.loop-entry-preserved-in-Some-brought
loop-entry-preserved-in-Some-brought c =
    let z = brought-short _ _ _ c.in-Some.ensures.steps c.loop-entry.invariant.0 c.args.child.low.now c.args.child.high.now in
    let w = ap length c.in-Some-brought.ensures.bytes in
    (rest-short _ _ _ c.in-Some.ensures.steps c.loop-entry.invariant.0, omega arith, fit-step _ _ _ _ _ c.loop-entry.invariant.2 _ _ _ c.in-Some.ensures.steps (omega arith))

pub loop-entry-preserved : goal.loop-entry-preserved
loop-entry-preserved c =
    (rest-short _ _ _ c.in-Some.ensures.steps c.loop-entry.invariant.0, omega arith, fit-skip _ _ _ _ _ c.loop-entry.invariant.2 _ _ c.in-Some.ensures.steps c.in_default.ensures.bytes)

pub returns : goal.returns
returns c = fit-end _ _ _ _ _ c.loop-entry.invariant.2 c.in-None.ensures.steps.0
