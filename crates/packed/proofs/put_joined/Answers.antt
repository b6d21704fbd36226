-- `put_joined` meets its contract.
-- Relies on specs/Build/RowSteps.
use Rattle.packed.specs.Build.RowSteps.{row-joined}
use Rattle.std.specs.Prelude.{length, set, refl, ◌+◌, ◌*◌}
use Rattle.image.specs.Prelude.{arith, length-set}
use Rattle.packed.proofs.put_joined.Goals as goal

pub bounds-area-at-2 : goal.bounds-area-at-2
bounds-area-at-2 c = simp length-set (omega arith)

pub copy_at-requires : goal.copy_at-requires
copy_at-requires c = let x = length-set c.args.area.now (c.args.i * 128) (length c.args.front.now + length c.args.rest.now) in let y = length-set (set c.args.area.now (c.args.i * 128) (length c.args.front.now + length c.args.rest.now)) (c.args.i * 128 + 1) (length c.args.value.now) in omega arith

pub copy_at-requires-2 : goal.copy_at-requires-2
copy_at-requires-2 c = let x = length-set c.args.area.now (c.args.i * 128) (length c.args.front.now + length c.args.rest.now) in let y = length-set (set c.args.area.now (c.args.i * 128) (length c.args.front.now + length c.args.rest.now)) (c.args.i * 128 + 1) (length c.args.value.now) in let k = c.copy_at.auto.page in omega arith

pub copy_at-requires-3 : goal.copy_at-requires-3
copy_at-requires-3 c = let x = length-set c.args.area.now (c.args.i * 128) (length c.args.front.now + length c.args.rest.now) in let y = length-set (set c.args.area.now (c.args.i * 128) (length c.args.front.now + length c.args.rest.now)) (c.args.i * 128 + 1) (length c.args.value.now) in let k = c.copy_at.auto.page in let l = c.copy_at-2.auto.page in omega arith

pub shape_of-area : goal.shape_of-area
shape_of-area c = let x = length-set c.args.area.now (c.args.i * 128) (length c.args.front.now + length c.args.rest.now) in let y = length-set (set c.args.area.now (c.args.i * 128) (length c.args.front.now + length c.args.rest.now)) (c.args.i * 128 + 1) (length c.args.value.now) in let k = c.copy_at.auto.page in let l = c.copy_at-2.auto.page in let o = c.copy_at-3.auto.page in omega arith

pub returns : goal.returns
returns c = row-joined c.args.area.now c.args.i c.args.front.now c.args.rest.now c.args.value.now c.requires.0 c.requires.1 c.requires.2 c.requires.3 _ _ _ _ _ refl refl c.copy_at.ensures c.copy_at-2.ensures c.copy_at-3.ensures
