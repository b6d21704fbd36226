-- `make_room` meets its contract: room at the root, a free node, or a rebuild, which leaves one. Relies on specs/Room.
use Rattle.laws.specs.ButLive.{sound-but-live}
use Rattle.edit.specs.Room.{roomy-now, roomy-above, rebuilt-above}
use Rattle.std.specs.Prelude.{refl}
use Rattle.edit.proofs.make_room.Goals as goal

pub waiting_at_root-waiting-requires : goal.waiting_at_root-waiting-requires
waiting_at_root-waiting-requires c = sound-but-live _ c.requires.0.is_sound

pub goes_at_root-requires : goal.goes_at_root-requires
goes_at_root-requires c = (c.requires.0.is_sound, c.requires.1)

pub returns-then-goes_at_root : goal.returns-then-goes_at_root
returns-then-goes_at_root c = roomy-now _ _ _ c.requires.0.is_sound (c.goes_at_root.ensures c.if-goes_at_root.true)

pub free_above-requires : goal.free_above-requires
free_above-requires c = (c.requires.0.whole, c.requires.0.is_sound, c.requires.2)

pub returns-in-Some : goal.returns-in-Some
returns-in-Some c = roomy-above _ _ _ _ c.requires.0.is_sound c.in-Some.ensures

pub rebuild-requires : goal.rebuild-requires
rebuild-requires c = (c.requires.0.whole, c.requires.0.is_sound, c.requires.0.long)

pub returns : goal.returns
returns c = rebuilt-above _ _ _ _ _ c.requires.0.whole c.requires.0.long c.rebuild.ensures _ refl
