-- `insert_row` meets its contract: the place, the move and the new row make the table with the row put into it.
-- Relies on specs/Insertion/InsertSteps and on the contracts of the three calls.
use Rattle.dump.specs.Insertion.InsertSteps.{fit-front, inserted}
use Rattle.image.specs.Prelude.{arith}
use Rattle.dump.proofs.insertion.insert_row.Goals as goal

pub put_row-requires : goal.put_row-requires
put_row-requires c = let a = c.args in
    let h = c.requires in
    let i = c.place_of-i.result in
    let f = fit-front a.area.now i a.m h.0 (omega arith) (omega arith) _ c.move_rows.ensures in
    (f, omega arith)

pub returns : goal.returns
returns c = let a = c.args in
    let h = c.requires in
    let i = c.place_of-i.result in
    inserted a.area.now i a.m h.0 (omega arith) (omega arith) _ c.move_rows.ensures
    a.row.path.now a.row.value.now _ (omega arith) c.put_row.ensures a.from c.place_of-i.ensures.0 h.4
