-- `write_level` meets its contract.
-- Relies on specs/Build/LevelSteps.
use Rattle.packed.specs.Build.LevelSteps.{level-first, node-ready, level-next, level-last}
use Rattle.std.specs.Prelude.{refl}
use Rattle.image.specs.Prelude.{arith}
use Rattle.packed.proofs.write_level.Goals as goal

pub loop-i-init : goal.loop-i-init
loop-i-init c = level-first _ _ _ _ _ _ c.requires.0 c.requires.3

pub bounds-numbers-made : goal.bounds-numbers-made
bounds-numbers-made c = let q = node-ready c.args.level c.args.m c.args.numbers.now c.args.from c.args.area.now c.loop-i.area c.args.store.now c.loop-i.store c.loop-i.i c.loop-i.made c.loop-i.invariant (omega arith) c.requires.4 c.requires.5 c.start_weight-w.result c.start_weight-w.ensures.0 c.node_end-j.result c.node_end-j.ensures.0 in let z = q.left in omega arith

pub write_node-requires : goal.write_node-requires
write_node-requires c = let q = node-ready c.args.level c.args.m c.args.numbers.now c.args.from c.args.area.now c.loop-i.area c.args.store.now c.loop-i.store c.loop-i.i c.loop-i.made c.loop-i.invariant (omega arith) c.requires.4 c.requires.5 c.start_weight-w.result c.start_weight-w.ensures.0 c.node_end-j.result c.node_end-j.ensures.0 in
    let r = q.room in
    (c.loop-i.invariant.fit, omega arith, omega arith, q.next, q.fits, omega arith, omega arith, omega arith)

pub overflow_add-made : goal.overflow_add-made
overflow_add-made c = let q = node-ready c.args.level c.args.m c.args.numbers.now c.args.from c.args.area.now c.loop-i.area c.args.store.now c.loop-i.store c.loop-i.i c.loop-i.made c.loop-i.invariant (omega arith) c.requires.4 c.requires.5 c.start_weight-w.result c.start_weight-w.ensures.0 c.node_end-j.result c.node_end-j.ensures.0 in let z = q.left in let g = c.well_formed.1.1.1.0.0 in omega arith

pub loop-i-preserved : goal.loop-i-preserved
loop-i-preserved c = level-next c.args.level c.args.m c.args.numbers.now c.args.from c.args.area.now c.loop-i.area c.args.store.now c.loop-i.store c.loop-i.i c.loop-i.made c.loop-i.invariant (omega arith) c.requires.4 c.requires.5 c.start_weight-w.result c.start_weight-w.ensures.0 c.node_end-j.result c.node_end-j.ensures.0 _ refl _ _ _ c.write_node.ensures c.clear_marks.ensures c.put_mark.ensures (omega arith)

pub returns : goal.returns
returns c = level-last _ _ _ _ _ _ _ _ _ _ c.loop-i.invariant (omega arith) (omega arith)
