-- `merge_chunk` meets its contract: before each turn some of the rows set aside are to come in, and those behind them are done.
-- Relies on specs/Insertion/MergeSteps.
use Rattle.std.specs.Prelude.{refl}
use Rattle.image.specs.Prelude.{arith}
use Rattle.dump.specs.Insertion.MergeSteps.{part-size, set-aside, merge-first, row-fit, row-rises, row_room, row-fits-there, merge-next, merge-end}
use Rattle.dump.proofs.insertion.merge_chunk.Goals as goal

pub copy_at-requires : goal.copy_at-requires
copy_at-requires c = let a = c.args in
    let h = c.requires.0.high in
    let r = c.requires.0.fit.room in
    let l = part-size a.area.now a.middle a.end (omega arith) in
    omega arith

pub loop-left-init : goal.loop-left-init
loop-left-init c = let a = c.args in
    let h = c.requires.0 in
    let s = set-aside a.area.now _ _ a.middle a.end h.high c.requires.1 (omega arith) refl c.copy_at.ensures in
    (s, merge-first a.area.now _ a.first a.middle a.end h s)

pub merge_row-high-requires : goal.merge_row-high-requires
merge_row-high-requires c = let a = c.args in
    let h = c.requires.0 in
    let l = c.loop-left in (
      row-fit a.area.now _ a.first a.middle a.end h l.invariant.0 l.area l.high l.left l.invariant.1,
      l.invariant.1.low,
      row_room a.area.now _ a.first a.middle a.end h l.invariant.0 l.area l.high l.left l.invariant.1 (omega arith),
      row-fits-there a.area.now _ a.first a.middle a.end h l.invariant.0 l.area l.high l.left l.invariant.1 (omega arith),
      row-rises a.area.now _ a.first a.middle a.end h l.invariant.0 l.area l.high l.left l.invariant.1,
    )

pub loop-left-preserved : goal.loop-left-preserved
loop-left-preserved c = let a = c.args in
    let l = c.loop-left in
    (l.invariant.0, merge-next a.area.now _ a.first a.middle a.end c.requires.0 l.invariant.0 l.area l.high l.left l.invariant.1 (omega arith) _ _ c.merge_row-high.ensures)

pub returns : goal.returns
returns c = let a = c.args in
    let l = c.loop-left in
    merge-end a.area.now _ a.first a.middle a.end c.requires.0 l.invariant.0 l.area l.high l.left l.invariant.1 (omega arith)
