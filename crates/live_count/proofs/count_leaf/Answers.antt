-- `count_leaf` meets its contract: pair by pair. Relies on specs/Steps.
use Rattle.std.specs.Prelude.{length}
use Rattle.image.specs.Prelude.{arith, ap}
use Rattle.live_count.specs.Steps.{count-end, count-on, count-past, few-left, pair-decides, leaf-key, leaf-rest, leaf-other}
use Rattle.live_count.proofs.count_leaf.Goals as goal

pub shows-requires : goal.shows-requires
shows-requires c = leaf-key _ _ _ _ c.in-Some.ensures.steps c.loop-entry.invariant.2 _ _ c.in-Pair.is

pub overflow_add-count : goal.overflow_add-count
overflow_add-count c = let f = few-left c.args.entries in let a = ap length c.in-Some.ensures.steps in let r = c.ranges.entries in omega (arith, c.loop-entry.invariant.0)

pub loop-entry-preserved-then-shows : goal.loop-entry-preserved-then-shows
loop-entry-preserved-then-shows c = let a = ap length c.in-Some.ensures.steps in (
  omega (arith, c.loop-entry.invariant.0),
  count-on _ _ _ _ _ _ _ _ c.in-Some.ensures.steps (pair-decides _ _ _ _ _ _ _ c.in-Pair.is c.shows.ensures) c.loop-entry.invariant.1 c.if-shows.true,
  leaf-rest _ _ _ _ c.in-Some.ensures.steps c.loop-entry.invariant.2 _ _ c.in-Pair.is,
)

pub loop-entry-preserved-else-shows : goal.loop-entry-preserved-else-shows
loop-entry-preserved-else-shows c = let a = ap length c.in-Some.ensures.steps in (
  omega (arith, c.loop-entry.invariant.0),
  count-past _ _ _ _ _ _ _ _ c.in-Some.ensures.steps (pair-decides _ _ _ _ _ _ _ c.in-Pair.is c.shows.ensures) c.loop-entry.invariant.1 c.if-shows.false,
  leaf-rest _ _ _ _ c.in-Some.ensures.steps c.loop-entry.invariant.2 _ _ c.in-Pair.is,
)

pub loop-entry-preserved : goal.loop-entry-preserved
loop-entry-preserved c = absurd (leaf-other _ _ _ _ c.in-Some.ensures.steps c.loop-entry.invariant.2 c.in_default.not-Pair)

pub returns : goal.returns
returns c = (count-end _ _ _ _ _ c.in-None.ensures.steps.0 c.loop-entry.invariant.1, omega (arith, c.loop-entry.invariant.0))
