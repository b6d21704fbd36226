-- `mend_node` meets its contract: after each step the image is the first one with so many pairs merged, and there is a child less.
-- Relies on specs/NodeSteps and on Laws/Mended.
use Rattle.std.specs.Prelude.{refl}
use Rattle.merge.specs.Laws.Mended.{starts}
use Rattle.merge.specs.NodeSteps.{goes, is-done}
use Rattle.merge.proofs.mend_node.Goals as goal

pub loop-init : goal.loop-init
loop-init c = (c.requires, starts _ _, refl)

pub mend_once-requires : goal.mend_once-requires
mend_once-requires c = c.loop.invariant.0

pub returns : goal.returns
returns c = is-done c.args.store.now c.args.num c.args.high.now c.loop.store _ _ c.loop.invariant.0 c.loop.invariant.1 c.mend_once.ensures.0 c.mend_once.ensures.1 c.requires c.loop-test.false

pub loop-smaller : goal.loop-smaller
loop-smaller c = (goes c.args.store.now c.args.num c.args.high.now c.loop.store _ _ c.loop.invariant.0 c.loop.invariant.1 c.mend_once.ensures.0 c.mend_once.ensures.1 c.loop-test.true).fewer

pub loop-preserved : goal.loop-preserved
loop-preserved c =
    let z = goes c.args.store.now c.args.num c.args.high.now c.loop.store _ _ c.loop.invariant.0 c.loop.invariant.1 c.mend_once.ensures.0 c.mend_once.ensures.1 c.loop-test.true in
    (z.ready, z.so_far, z.so_far.size)
