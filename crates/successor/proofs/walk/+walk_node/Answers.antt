-- `walk_node` meets its contract: a child that is passed over, one that has no paths, one that is walked. Relies on specs/Candidates, specs/InHand
-- and specs/Visited.
use Rattle.std.specs.Prelude.{◌-◌, refl}
use Rattle.image.specs.Prelude.{arith}
use Rattle.lookup.specs.Look.{node-inside}
use Rattle.successor.specs.Visited.{visited-start, visited-more, visited-end, without-paths}
use Rattle.successor.specs.Candidates.{leaf-is, children-are, children-ready, child-holds, long-empty, enters-ready, entered-is, run-none}
use Rattle.successor.specs.InHand.{in-hand, later-ready, later-ends, run-more}
use Rattle.successor.proofs.walk.+walk_node.Goals as goal

pub of_node-entries-requires : goal.of_node-entries-requires
of_node-entries-requires g t c = (node-inside c.args.store.now c.args.num c.args.level c.requires.usable).0

pub returns-then-level-le1 : goal.returns-then-level-le1
returns-then-level-le1 g t c = rw (leaf-is c.args.store.now c.args.pre.now c.args.hi.now c.args.level c.args.num c.requires _ c.of_node-entries.ensures.lists (omega arith)) at c.walk_entries.ensures

pub loop-child-init : goal.loop-child-init
loop-child-init g t c =
    rw c.into_iter-child-iterator.ensures.into_iter_gives
    (record {
      ready = children-ready c.args.store.now c.args.pre.now c.args.hi.now c.args.level c.args.num c.requires _ c.of_node-entries.ensures.lists (omega arith) _ c.among-child-items.ensures.pending;
      ends = c.among-child-items.ensures.high;
      seen = rw (children-are c.args.store.now c.args.pre.now c.args.hi.now c.args.level c.args.num c.requires _ c.of_node-entries.ensures.lists (omega arith) _ c.among-child-items.ensures.pending) (visited-start g.V.Visitor.walks g.met.V.Visitor.nothing _ _);
    })

pub loop-child-preserved-then-passes_over : goal.loop-child-preserved-then-passes_over
loop-child-preserved-then-passes_over g t c =
    record {
      ready = later-ready c.args.store.now c.args.pre.now c.args.hi.now (c.args.level - 1) _ _ _ c.in-Some.ensures.steps c.loop-child.invariant.ready c.loop-child.invariant.ends;
      ends = later-ends c.args.store.now c.args.pre.now c.args.hi.now (c.args.level - 1) _ _ _ c.in-Some.ensures.steps c.loop-child.invariant.ready c.loop-child.invariant.ends;
      seen = visited-more g.V.Visitor.walks g.met.V.Visitor.both _ _ _ _ _ _ _ (run-more c.args.store.now c.args.pre.now c.args.hi.now (c.args.level - 1) _ _ _ c.in-Some.ensures.steps c.loop-child.invariant.ready c.loop-child.invariant.ends _) c.loop-child.invariant.seen
          (c.if-passes_over.ensures refl _ (child-holds c.args.store.now c.args.pre.now c.in-Some.child.low.now c.in-Some.child.high.now (c.args.level - 1) c.in-Some.child.number (in-hand c.args.store.now c.args.pre.now c.args.hi.now (c.args.level - 1) _ _ _ c.in-Some.ensures.steps c.loop-child.invariant.ready c.loop-child.invariant.ends)));
    }

pub loop-child-preserved-in_default : goal.loop-child-preserved-in_default
loop-child-preserved-in_default g t c =
    record {
      ready = later-ready c.args.store.now c.args.pre.now c.args.hi.now (c.args.level - 1) _ _ _ c.in-Some.ensures.steps c.loop-child.invariant.ready c.loop-child.invariant.ends;
      ends = later-ends c.args.store.now c.args.pre.now c.args.hi.now (c.args.level - 1) _ _ _ c.in-Some.ensures.steps c.loop-child.invariant.ready c.loop-child.invariant.ends;
      seen = visited-more g.V.Visitor.walks g.met.V.Visitor.both _ _ _ _ _ _ _ (run-more c.args.store.now c.args.pre.now c.args.hi.now (c.args.level - 1) _ _ _ c.in-Some.ensures.steps c.loop-child.invariant.ready c.loop-child.invariant.ends _) c.loop-child.invariant.seen
          (without-paths g.V.Visitor.walks g.met.V.Visitor.nothing _ c.args.pre.now _ (long-empty c.args.store.now c.args.pre.now c.in-Some.child.low.now c.in-Some.child.high.now (c.args.level - 1) c.in-Some.child.number (in-hand c.args.store.now c.args.pre.now c.args.hi.now (c.args.level - 1) _ _ _ c.in-Some.ensures.steps c.loop-child.invariant.ready c.loop-child.invariant.ends) _ c.common_length-k.ensures.0 c.in_default.ensures));
    }

pub walk_node-requires : goal.walk_node-requires
walk_node-requires g t c =
    λ κs h. (omega arith, (h, enters-ready c.args.store.now c.args.pre.now c.in-Some.child.low.now c.in-Some.child.high.now (c.args.level - 1) c.in-Some.child.number (in-hand c.args.store.now c.args.pre.now c.args.hi.now (c.args.level - 1) _ _ _ c.in-Some.ensures.steps c.loop-child.invariant.ready c.loop-child.invariant.ends) _ c.common_length-k.ensures.0 _ c.in-Some-join.ensures _ c.as_slice.ensures.held))

pub loop-child-preserved : goal.loop-child-preserved
loop-child-preserved g t c =
    record {
      ready = later-ready c.args.store.now c.args.pre.now c.args.hi.now (c.args.level - 1) _ _ _ c.in-Some.ensures.steps c.loop-child.invariant.ready c.loop-child.invariant.ends;
      ends = later-ends c.args.store.now c.args.pre.now c.args.hi.now (c.args.level - 1) _ _ _ c.in-Some.ensures.steps c.loop-child.invariant.ready c.loop-child.invariant.ends;
      seen = visited-more g.V.Visitor.walks g.met.V.Visitor.both _ _ _ _ _ _ _ (run-more c.args.store.now c.args.pre.now c.args.hi.now (c.args.level - 1) _ _ _ c.in-Some.ensures.steps c.loop-child.invariant.ready c.loop-child.invariant.ends _) c.loop-child.invariant.seen
          (rw (entered-is c.args.store.now c.args.pre.now c.in-Some.child.low.now c.in-Some.child.high.now (c.args.level - 1) c.in-Some.child.number (in-hand c.args.store.now c.args.pre.now c.args.hi.now (c.args.level - 1) _ _ _ c.in-Some.ensures.steps c.loop-child.invariant.ready c.loop-child.invariant.ends) _ c.common_length-k.ensures.0 _ c.in-Some-join.ensures _ c.as_slice.ensures.held) at c.walk_node.ensures);
    }

pub returns : goal.returns
returns g t c =
    visited-end g.V.Visitor.walks g.met.V.Visitor.both _ _ _ _ _ c.loop-child.invariant.seen
    (rw (c.in-None.ensures.steps, run-none (c.args.level - 1) c.args.store.now c.args.hi.now) c.walk_entries-2.ensures)
