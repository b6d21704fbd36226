-- `append::fits_at_root` meets its contract: the tests it makes are those of `room_at_root`.
use Rattle.append.specs.WriteSteps.{long, no_room, room_by}
use Rattle.image.specs.Prelude.{arith}
use Rattle.append.proofs.fits_at_root.Goals as goal

pub read_levels-levels-requires : goal.read_levels-levels-requires
read_levels-levels-requires c = let l = long c.args.store.now c.requires.0 in omega arith

pub returns-then-levels-lt2 : goal.returns-then-levels-lt2
returns-then-levels-lt2 c = no_room _ _ _ c.read_levels-levels.ensures.0 c.if-levels-lt2.true

pub returns : goal.returns
returns c = room_by _ _ _ _ _ c.read_levels-levels.ensures.0 c.if-levels-lt2.false c.root_at-at.ensures.0 c.read_length-len.ensures.0
