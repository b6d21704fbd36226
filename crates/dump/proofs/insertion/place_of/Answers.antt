-- `place_of` meets its contract: the path's place stays between `low` and `high`, which close in on it.
-- Relies on specs/Insertion/Ranks.
use Rattle.image.specs.Bytes.{before}
use Rattle.packed.specs.Rows.Area.{row-fits}
use Rattle.dump.specs.Insertion.Ranks.{place-most, place-behind, place-upto}
use Rattle.std.specs.Prelude.{◌+◌, ◌-◌, ◌/◌}
use Rattle.image.specs.Prelude.{arith, sym, ◌∙◌, ap}
use Rattle.dump.proofs.insertion.place_of.Goals as goal

pub loop-low-init : goal.loop-low-init
loop-low-init c = let a = c.args in let h = place-most a.area.now a.from a.m a.path.now (omega arith) in (omega arith, omega arith, omega arith, omega arith)

pub row_at-requires : goal.row_at-requires
row_at-requires c = row-fits _ _ c.requires.0 _ (omega arith)

pub loop-low-preserved-then-precedes : goal.loop-low-preserved-then-precedes
loop-low-preserved-then-precedes c = let a = c.args in
    let l = c.loop-low in
    let h = place-behind a.area.now a.from a.m a.path.now (l.low + (l.high - l.low) / 2) (omega arith) (omega arith) c.requires.2 (ap (λ k. before k c.args.path.now) (sym c.row_at.ensures.path_is) ∙ sym c.precedes.ensures ∙ c.if-precedes.true) in
    (omega arith, omega arith, omega arith, omega arith)

pub loop-low-preserved : goal.loop-low-preserved
loop-low-preserved c = let a = c.args in
    let l = c.loop-low in
    let h = place-upto a.area.now a.from a.m a.path.now (l.low + (l.high - l.low) / 2) (omega arith) (omega arith) (ap (λ k. before k c.args.path.now) (sym c.row_at.ensures.path_is) ∙ sym c.precedes.ensures ∙ c.if-precedes.false) in
    (omega arith, omega arith, omega arith, omega arith)

pub returns : goal.returns
returns c = (omega arith, omega arith, omega arith)
