-- `write_above` meets its contract.
-- Relies on specs/Build/AboveSteps.
use Rattle.packed.specs.Build.Passes.{tree_above, pages_above}
use Rattle.packed.specs.Build.AboveSteps.{ascent-ready, ascent-next, ascent-last}
use Rattle.packed.specs.Form.Tidy.{write_all}
use Rattle.image.specs.Prelude.{arith}
use Rattle.packed.proofs.write_above.Goals as goal

pub loop-count-init : goal.loop-count-init
loop-count-init c = c.requires.4

pub overflow_add-level : goal.overflow_add-level
overflow_add-level c = let q = ascent-ready c.args.m c.args.numbers.now c.args.area.now c.loop-count.area c.args.store.now c.loop-count.store c.loop-count.level c.loop-count.used c.loop-count.count (tree_above c.args.m c.args.numbers.now c.args.area.now c.args.made) (write_all (pages_above c.args.m c.args.numbers.now c.args.area.now c.args.made) c.args.store.now) c.loop-count.invariant (omega arith) in let z = q.low in omega arith

pub write_level-next-requires : goal.write_level-next-requires
write_level-next-requires c = let q = ascent-ready c.args.m c.args.numbers.now c.args.area.now c.loop-count.area c.args.store.now c.loop-count.store c.loop-count.level c.loop-count.used c.loop-count.count (tree_above c.args.m c.args.numbers.now c.args.area.now c.args.made) (write_all (pages_above c.args.m c.args.numbers.now c.args.area.now c.args.made) c.args.store.now) c.loop-count.invariant (omega arith) in
    let i = c.loop-count.invariant in
    let z = i.size in
    (i.fit, omega arith, omega arith, i.marked, q.enough, rw i.size c.requires.2, omega arith, q.low)

pub overflow_sub-count : goal.overflow_sub-count
overflow_sub-count c = let z = c.write_level-next.ensures.counted in omega arith

pub overflow_add-level-in-loop-count : goal.overflow_add-level-in-loop-count
overflow_add-level-in-loop-count c = let q = ascent-ready c.args.m c.args.numbers.now c.args.area.now c.loop-count.area c.args.store.now c.loop-count.store c.loop-count.level c.loop-count.used c.loop-count.count (tree_above c.args.m c.args.numbers.now c.args.area.now c.args.made) (write_all (pages_above c.args.m c.args.numbers.now c.args.area.now c.args.made) c.args.store.now) c.loop-count.invariant (omega arith) in let z = q.low in omega arith

pub loop-count-smaller : goal.loop-count-smaller
loop-count-smaller c = let q = ascent-ready c.args.m c.args.numbers.now c.args.area.now c.loop-count.area c.args.store.now c.loop-count.store c.loop-count.level c.loop-count.used c.loop-count.count (tree_above c.args.m c.args.numbers.now c.args.area.now c.args.made) (write_all (pages_above c.args.m c.args.numbers.now c.args.area.now c.args.made) c.args.store.now) c.loop-count.invariant (omega arith) in let z = q.low in omega arith

pub loop-count-preserved : goal.loop-count-preserved
loop-count-preserved c = ascent-next c.args.m c.args.numbers.now c.args.area.now c.loop-count.area c.args.store.now c.loop-count.store c.loop-count.level c.loop-count.used c.loop-count.count (tree_above c.args.m c.args.numbers.now c.args.area.now c.args.made) (write_all (pages_above c.args.m c.args.numbers.now c.args.area.now c.args.made) c.args.store.now) c.loop-count.invariant (omega arith) _ _ c.write_level-next.result c.write_level-next.ensures (omega arith)

pub returns : goal.returns
returns c = ascent-last _ _ _ _ _ _ _ _ _ _ _ c.loop-count.invariant (omega arith) (omega arith)
