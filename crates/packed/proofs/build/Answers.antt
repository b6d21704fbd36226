-- `build` meets its contract.
-- Relies on specs/Build/BuildSteps.
use Rattle.packed.specs.Build.BuildSteps.{leaves-ready, empty-ready, ascent-first, build-last, build-empty}
use Rattle.std.specs.Prelude.{refl}
use Rattle.image.specs.Prelude.{arith}
use Rattle.packed.proofs.build.Goals as goal

pub bounds-numbers-0 : goal.bounds-numbers-0
bounds-numbers-0 c = let q = empty-ready c.args.store.now c.args.area.now c.args.m c.args.numbers.now c.requires in let z = q.some_number in omega arith

pub write_empty_leaf-requires : goal.write_empty_leaf-requires
write_empty_leaf-requires c = let q = empty-ready c.args.store.now c.args.area.now c.args.m c.args.numbers.now c.requires in let z = q.room in let y = q.small in (omega arith, omega arith)

pub write_header-requires : goal.write_header-requires
write_header-requires c = let q = empty-ready c.args.store.now c.args.area.now c.args.m c.args.numbers.now c.requires in let z = q.room in let y = q.small in (omega arith, omega arith, omega arith, omega arith, omega arith)

pub returns-then-m-eq0 : goal.returns-then-m-eq0
returns-then-m-eq0 c = build-empty c.args.store.now c.args.area.now c.args.m c.args.numbers.now c.requires (omega arith) _ _ _ refl c.write_empty_leaf.ensures (omega arith) c.write_header.ensures

pub write_leaves-made-requires : goal.write_leaves-made-requires
write_leaves-made-requires c = let q = leaves-ready c.args.store.now c.args.area.now c.args.m c.args.numbers.now c.requires (omega arith) in (q.fit, omega arith, q.few, q.enough, q.ranged, q.small)

pub write_above-levels-requires : goal.write_above-levels-requires
write_above-levels-requires c = let q = leaves-ready c.args.store.now c.args.area.now c.args.m c.args.numbers.now c.requires (omega arith) in
    let z = q.small in
    let k = q.few in
    (omega arith, omega arith, rw c.write_leaves-made.auto.store q.ranged, omega arith, ascent-first c.args.store.now c.args.area.now c.args.m c.args.numbers.now c.requires (omega arith) _ _ c.write_leaves-made.result c.write_leaves-made.ensures)

pub mark_at-root-requires : goal.mark_at-root-requires
mark_at-root-requires c = let q = leaves-ready c.args.store.now c.args.area.now c.args.m c.args.numbers.now c.requires (omega arith) in let r = q.fit.room in omega arith

pub write_header-requires-2 : goal.write_header-requires-2
write_header-requires-2 c = let q = leaves-ready c.args.store.now c.args.area.now c.args.m c.args.numbers.now c.requires (omega arith) in
    let z = q.small in
    let y = q.large in
    let k = q.few in
    let l = c.write_above-levels.ensures.low in
    (omega arith, omega arith, omega arith, omega arith, omega arith)

pub returns : goal.returns
returns c = build-last c.args.store.now c.args.area.now c.args.m c.args.numbers.now c.requires (omega arith) _ _ c.write_leaves-made.result c.write_leaves-made.ensures _ _ _ c.mark_at-root.result c.write_above-levels.result
    c.write_above-levels.ensures c.mark_at-root.ensures.0 (omega arith) c.write_header-2.ensures
