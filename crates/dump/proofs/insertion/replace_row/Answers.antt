-- `replace_row` meets its contract: the path's place is behind all rows, or its row has another path, or the row is written anew.
-- Relies on specs/Insertion/ReplaceSteps and on the contracts of the three calls.
use Rattle.image.specs.Bytes.{same}
use Rattle.packed.specs.Rows.Area.{row-fits, fit-fewer}
use Rattle.std.proofs.Common.{ap, not}
use Rattle.dump.specs.Insertion.ReplaceSteps.{replace-end, replace-other, replace-here}
use Rattle.image.specs.Prelude.{arith, ◌∙◌}
use Rattle.dump.proofs.insertion.replace_row.Goals as goal

pub returns-then-m-i : goal.returns-then-m-i
returns-then-m-i c = replace-end c.args.area.now c.args.from c.args.m c.requires.0 c.requires.1 c.requires.2 c.args.row.path.now c.args.row.value.now c.place_of-i.result c.place_of-i.ensures.0 (omega arith) (omega arith)

pub returns-then-not-equal : goal.returns-then-not-equal
returns-then-not-equal c = replace-other c.args.area.now c.args.from c.args.m c.requires.0 c.requires.1 c.requires.2 c.args.row.path.now c.args.row.value.now c.place_of-i.result c.place_of-i.ensures.0 (omega arith) _ (c.equal.ensures ∙ ap (λ k. same k c.args.row.path.now) c.row_at.ensures.path_is) (ap not c.if-not-equal.true)

pub row_at-requires : goal.row_at-requires
row_at-requires c = row-fits _ _ c.requires.0 _ (omega arith)

pub put_row-requires : goal.put_row-requires
put_row-requires c = let r = c.requires.0.room in (fit-fewer c.args.m c.place_of-i.result c.args.area.now (omega arith) c.requires.0, omega arith)

pub returns : goal.returns
returns c = replace-here c.args.area.now c.args.from c.args.m c.requires.0 c.requires.1 c.requires.2 c.args.row.path.now c.args.row.value.now c.place_of-i.result c.place_of-i.ensures.0 (omega arith) _ (c.equal.ensures ∙ ap (λ k. same k c.args.row.path.now) c.row_at.ensures.path_is) (ap not c.if-not-equal.false) _ c.put_row.auto.area c.put_row.ensures
