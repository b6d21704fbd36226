-- `count_entries` meets its contract: the count so far and that of the entries left make the count of all. Relies on specs/Steps.
use Rattle.std.specs.Prelude.{length}
use Rattle.image.specs.Prelude.{arith, ap}
use Rattle.live_count.specs.Steps.{count-end, count-on, count-past, few-left}
use Rattle.live_count.proofs.count_entries.Goals as goal

pub overflow_add-count : goal.overflow_add-count
overflow_add-count c = let f = few-left c.args.entries in let a = ap length c.in-Some.ensures.steps in let r = c.ranges.entries in omega (arith, c.loop-entry.invariant.0)

pub loop-entry-preserved-then-decides : goal.loop-entry-preserved-then-decides
loop-entry-preserved-then-decides c = let a = ap length c.in-Some.ensures.steps in
    (omega (arith, c.loop-entry.invariant.0), count-on _ _ _ _ _ _ _ _ c.in-Some.ensures.steps c.decides.ensures c.loop-entry.invariant.1 c.if-decides.true)

pub loop-entry-preserved : goal.loop-entry-preserved
loop-entry-preserved c = let a = ap length c.in-Some.ensures.steps in
    (omega (arith, c.loop-entry.invariant.0), count-past _ _ _ _ _ _ _ _ c.in-Some.ensures.steps c.decides.ensures c.loop-entry.invariant.1 c.if-decides.false)

pub returns : goal.returns
returns c = (count-end _ _ _ _ _ c.in_default.ensures.steps.0 c.loop-entry.invariant.1, omega (arith, c.loop-entry.invariant.0))
