-- `merge_rows` meets its contract: before each turn the rows up to `done` are merged, and those behind are as they were.
-- Relies on specs/Insertion/MergeSteps.
use Rattle.std.proofs.Common.{rules}
use Rattle.std.specs.Prelude.{◌+◌, refl}
use Rattle.image.specs.Prelude.{arith}
use Rattle.dump.specs.Insertion.MergeSteps.{merged-none, merged-same, merged-alone, chunk-apart, chunk-merged}
use Rattle.dump.proofs.insertion.merge_rows.Goals as goal

pub returns-then-end-middle : goal.returns-then-end-middle
returns-then-end-middle c = merged-same c.args.area.now c.args.first c.args.middle c.args.end c.requires (omega arith)

pub returns-then-middle-first : goal.returns-then-middle-first
returns-then-middle-first c = merged-alone c.args.area.now c.args.first c.args.middle c.args.end c.requires (omega arith)

pub loop-done-init : goal.loop-done-init
loop-done-init c = (omega arith, omega arith, refl, merged-none c.args.area.now c.args.first c.args.middle c.args.end c.requires)

pub merge_chunk-requires : goal.merge_chunk-requires
merge_chunk-requires c = let a = c.args in
    let l = c.loop-done in
    (chunk-apart a.area.now a.first a.middle a.end c.requires l.area l.done (l.done + 32) (omega arith) (omega arith) (omega arith) l.invariant.2 l.invariant.3, omega arith)

pub loop-done-preserved : goal.loop-done-preserved
loop-done-preserved c = let a = c.args in
    let l = c.loop-done in
    (omega arith, omega arith, search rules, chunk-merged a.area.now a.first a.middle a.end c.requires l.area l.done (l.done + 32) (omega arith) (omega arith) (omega arith) l.invariant.2 l.invariant.3 _ c.merge_chunk.ensures)

pub merge_chunk-requires-2 : goal.merge_chunk-requires-2
merge_chunk-requires-2 c = let a = c.args in
    let l = c.loop-done in
    (chunk-apart a.area.now a.first a.middle a.end c.requires l.area l.done a.end (omega arith) (omega arith) (omega arith) l.invariant.2 l.invariant.3, omega arith)

pub returns : goal.returns
returns c = let a = c.args in
    let l = c.loop-done in
    chunk-merged a.area.now a.first a.middle a.end c.requires l.area l.done a.end (omega arith) (omega arith) (omega arith) l.invariant.2 l.invariant.3 _ c.merge_chunk-2.ensures
