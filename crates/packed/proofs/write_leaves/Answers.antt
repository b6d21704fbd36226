-- `write_leaves` meets its contract.
-- Relies on specs/Build/LeafSteps.
use Rattle.packed.specs.Build.LeafSteps.{leaf_first, leaf-ready, leaf-next, leaf_last}
use Rattle.std.specs.Prelude.{refl}
use Rattle.image.specs.Prelude.{arith}
use Rattle.packed.proofs.write_leaves.Goals as goal

pub loop-i-init : goal.loop-i-init
loop-i-init c = leaf_first _ _ _ _ c.requires.0

pub bounds-numbers-made : goal.bounds-numbers-made
bounds-numbers-made c = let q = leaf-ready c.args.m c.args.numbers.now c.args.area.now c.loop-i.area c.args.store.now c.loop-i.store c.loop-i.i c.loop-i.made c.loop-i.invariant (omega arith) c.requires.3 c.requires.4 c.row_weight-w.result c.row_weight-w.ensures.0 c.leaf_end-j.result c.leaf_end-j.ensures in let z = q.left in omega arith

pub write_leaf-requires : goal.write_leaf-requires
write_leaf-requires c = let q = leaf-ready c.args.m c.args.numbers.now c.args.area.now c.loop-i.area c.args.store.now c.loop-i.store c.loop-i.i c.loop-i.made c.loop-i.invariant (omega arith) c.requires.3 c.requires.4 c.row_weight-w.result c.row_weight-w.ensures.0 c.leaf_end-j.result c.leaf_end-j.ensures in
    let r = q.room in
    let a = q.later in
    let b = q.last in
    (c.loop-i.invariant.fit, omega arith, omega arith, q.fits, omega arith, omega arith)

pub clear_marks-requires : goal.clear_marks-requires
clear_marks-requires c = let q = leaf-ready c.args.m c.args.numbers.now c.args.area.now c.loop-i.area c.args.store.now c.loop-i.store c.loop-i.i c.loop-i.made c.loop-i.invariant (omega arith) c.requires.3 c.requires.4 c.row_weight-w.result c.row_weight-w.ensures.0 c.leaf_end-j.result c.leaf_end-j.ensures in let a = q.later in let b = q.last in let r = c.loop-i.invariant.fit.room in (omega arith, omega arith)

pub overflow_add-made : goal.overflow_add-made
overflow_add-made c = let q = leaf-ready c.args.m c.args.numbers.now c.args.area.now c.loop-i.area c.args.store.now c.loop-i.store c.loop-i.i c.loop-i.made c.loop-i.invariant (omega arith) c.requires.3 c.requires.4 c.row_weight-w.result c.row_weight-w.ensures.0 c.leaf_end-j.result c.leaf_end-j.ensures in let z = q.left in let g = c.well_formed.1.1.1.0.0 in omega arith

pub loop-i-smaller : goal.loop-i-smaller
loop-i-smaller c = let q = leaf-ready c.args.m c.args.numbers.now c.args.area.now c.loop-i.area c.args.store.now c.loop-i.store c.loop-i.i c.loop-i.made c.loop-i.invariant (omega arith) c.requires.3 c.requires.4 c.row_weight-w.result c.row_weight-w.ensures.0 c.leaf_end-j.result c.leaf_end-j.ensures in let a = q.later in let b = q.last in omega arith

pub loop-i-preserved : goal.loop-i-preserved
loop-i-preserved c = leaf-next c.args.m c.args.numbers.now c.args.area.now c.loop-i.area c.args.store.now c.loop-i.store c.loop-i.i c.loop-i.made c.loop-i.invariant (omega arith) c.requires.3 c.requires.4 c.row_weight-w.result c.row_weight-w.ensures.0 c.leaf_end-j.result c.leaf_end-j.ensures _ refl _ _ _ c.write_leaf.ensures c.clear_marks.ensures c.put_mark.ensures (omega arith)

pub returns : goal.returns
returns c = leaf_last _ _ _ _ _ _ _ _ c.loop-i.invariant (omega arith) (omega arith)
