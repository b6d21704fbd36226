-- `script::put_row` meets its contract: the path, the space, the value and the line feed, one after another; get finds the path, since it is there
-- (specs/Steps). Assumes nothing.
use Rattle.std.specs.Prelude.{◌-◌, refl, length}
use Rattle.image.specs.Prelude.{arith}
use Rattle.script.specs.Steps.{part-short, value-ends, gap_ends, start-ends, row-absent, row_fits, row_wrote}
use Rattle.image.specs.Path.{value_limit}
use Rattle.script.proofs.put_row.Goals as goal

pub put_byte-start-requires : goal.put_byte-start-requires
put_byte-start-requires c = omega (arith, gap_ends _ _ _ _ c.requires.0 c.requires.1 (length c.args.path.now - 1) refl _ _ c.put_exchanged-gap.ensures)

pub returns-in_default : goal.returns-in_default
returns-in_default c = row-absent _ _ _ _ c.requires.0 c.requires.1 (length c.args.path.now - 1) refl _ _ c.put_exchanged-gap.ensures _ _ c.put_byte-start.ensures _ _ _ c.get-found.ensures.meets refl _ c.in_default.is _ _

pub slice_bounds-put_value-end : goal.slice_bounds-put_value-end
slice_bounds-put_value-end c = let l = row_fits _ _ _ _ c.requires.0 c.requires.1 (length c.args.path.now - 1) refl _ _ c.put_exchanged-gap.ensures _ _ c.put_byte-start.ensures _ _ _ c.get-found.ensures.meets refl _ c.in-Ok.is in omega arith

pub put_value-stop-requires : goal.put_value-stop-requires
put_value-stop-requires c = (part-short _ _ value_limit (row_fits _ _ _ _ c.requires.0 c.requires.1 (length c.args.path.now - 1) refl _ _ c.put_exchanged-gap.ensures _ _ c.put_byte-start.ensures _ _ _ c.get-found.ensures.meets refl _ c.in-Ok.is), omega (arith, start-ends _ _ _ _ c.requires.0 c.requires.1 (length c.args.path.now - 1) refl _ _ c.put_exchanged-gap.ensures _ _ c.put_byte-start.ensures))

pub put_byte-requires : goal.put_byte-requires
put_byte-requires c = let e = value-ends _ _ _ _ _ c.put_value-stop.ensures (part-short _ _ value_limit (row_fits _ _ _ _ c.requires.0 c.requires.1 (length c.args.path.now - 1) refl _ _ c.put_exchanged-gap.ensures _ _ c.put_byte-start.ensures _ _ _ c.get-found.ensures.meets refl _ c.in-Ok.is)) in let f = start-ends _ _ _ _ c.requires.0 c.requires.1 (length c.args.path.now - 1) refl _ _ c.put_exchanged-gap.ensures _ _ c.put_byte-start.ensures in omega arith

pub returns : goal.returns
returns c = row_wrote _ _ _ _ c.requires.0 c.requires.1 (length c.args.path.now - 1) refl _ _ c.put_exchanged-gap.ensures _ _ c.put_byte-start.ensures _ _ _ c.get-found.ensures.meets refl _ c.in-Ok.is _ _ c.put_value-stop.ensures _ _ c.put_byte.ensures
