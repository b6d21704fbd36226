-- `set_row` meets its contract: the path is in the first part of the rows, or in the second, or comes new into the second.
-- Relies on specs/Insertion/ReplaceSteps and on the contracts of the calls.
use Rattle.packed.specs.Rows.Area.{fit-fewer}
use Rattle.dump.specs.Insertion.ReplaceSteps.{set_first, first-apart, set-second, second-apart, second-absent, new-room, set_new}
use Rattle.image.specs.Prelude.{arith}
use Rattle.dump.proofs.insertion.set_row.Goals as goal

pub replace_row-requires : goal.replace_row-requires
replace_row-requires c = (fit-fewer c.args.all c.args.m c.args.area.now c.requires.0.high c.requires.0.fit, omega arith, c.requires.0.rises)

pub returns-then-replace_row : goal.returns-then-replace_row
returns-then-replace_row c = set_first c.args.area.now c.args.m c.args.all c.requires.0 c.args.row.path.now c.args.row.value.now _ c.replace_row.auto.area _ c.replace_row.ensures c.if-replace_row.true

pub replace_row-requires-2 : goal.replace_row-requires-2
replace_row-requires-2 c = let a = first-apart c.args.area.now c.args.m c.args.all c.requires.0 c.args.row.path.now c.args.row.value.now _ c.replace_row.auto.area _ c.replace_row.ensures c.if-replace_row.false in (a.fit, a.high, a.later)

pub returns-then-replace_row-2 : goal.returns-then-replace_row-2
returns-then-replace_row-2 c = set-second c.args.area.now c.args.m c.args.all c.requires.0 c.args.row.path.now c.args.row.value.now _ c.replace_row.auto.area _ c.replace_row.ensures c.if-replace_row.false _ c.replace_row-2.auto.area _ c.replace_row-2.ensures c.if-replace_row-2.true

pub insert_row-requires : goal.insert_row-requires
insert_row-requires c = let a = second-apart c.args.area.now c.args.m c.args.all c.requires.0 c.args.row.path.now c.args.row.value.now _ c.replace_row.auto.area _ c.replace_row.ensures c.if-replace_row.false _ c.replace_row-2.auto.area _ c.replace_row-2.ensures c.if-replace_row-2.false in (a.fit, a.high, new-room c.args.area.now c.args.m c.args.all c.requires.0 c.args.row.path.now c.args.row.value.now _ c.replace_row.auto.area _ c.replace_row.ensures c.if-replace_row.false _ c.replace_row-2.auto.area _ c.replace_row-2.ensures c.if-replace_row-2.false c.requires.1, a.later, second-absent c.args.area.now c.args.m c.args.all c.requires.0 c.args.row.path.now c.args.row.value.now _ c.replace_row.auto.area _ c.replace_row.ensures c.if-replace_row.false _ c.replace_row-2.auto.area _ c.replace_row-2.ensures c.if-replace_row-2.false)

pub overflow_add-result : goal.overflow_add-result
overflow_add-result c = let a = new-room c.args.area.now c.args.m c.args.all c.requires.0 c.args.row.path.now c.args.row.value.now _ c.replace_row.auto.area _ c.replace_row.ensures c.if-replace_row.false _ c.replace_row-2.auto.area _ c.replace_row-2.ensures c.if-replace_row-2.false c.requires.1 in omega arith

pub returns : goal.returns
returns c = set_new c.args.area.now c.args.m c.args.all c.requires.0 c.args.row.path.now c.args.row.value.now _ c.replace_row.auto.area _ c.replace_row.ensures c.if-replace_row.false _ c.replace_row-2.auto.area _ c.replace_row-2.ensures c.if-replace_row-2.false _ c.insert_row.auto.area c.insert_row.ensures
