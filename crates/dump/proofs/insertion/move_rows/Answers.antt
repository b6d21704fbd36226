-- `move_rows` meets its contract: before each turn the rows from `at` on are moved. Relies on specs/Insertion/Moves.
use Rattle.image.specs.Prelude.{arith, ◌∙◌}
use Rattle.dump.specs.Insertion.Moves.{move-none, move-one, move_all}
use Rattle.dump.proofs.insertion.move_rows.Goals as goal

pub loop-at-init : goal.loop-at-init
loop-at-init c = (omega arith, move-none _ _ _)

pub loop-at-preserved : goal.loop-at-preserved
loop-at-preserved c = let a = c.args in
    let l = c.loop-at in
    (omega arith, c.copy_row.ensures ∙ move-one a.area.now l.area a.m a.by l.at (omega arith) (omega arith) (omega arith) (omega arith) l.invariant.1)

pub returns : goal.returns
returns c = let a = c.args in
    let l = c.loop-at in
    move_all a.area.now l.area a.i a.m a.by l.at (omega arith) (omega arith) l.invariant.1
