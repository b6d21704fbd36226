-- `merge_row` meets its contract: the place, the move and the copy are one put. Relies on specs/Insertion/MergeSteps.
use Rattle.image.specs.Prelude.{arith}
use Rattle.dump.specs.Insertion.MergeSteps.{row-merged}
use Rattle.dump.proofs.insertion.merge_row.Goals as goal

pub returns : goal.returns
returns c = let a = c.args in
    let f = c.requires.3.room in
    row-merged a.area.now _ _ a.aside.now _ a.first a.high a.left c.place_of-i.result (omega arith) (omega arith) (omega arith)
    (omega arith) c.row_at.ensures.path_is c.place_of-i.ensures.0 c.move_rows.ensures c.copy_at.ensures
