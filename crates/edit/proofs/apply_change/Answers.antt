-- `apply_change` meets its contract: room, the message, the live count. Relies on specs/Edited.
use Rattle.std.specs.Prelude.{[]}
use Rattle.image.specs.Prelude.{arith}
use Rattle.edit.specs.Edited.{edited, counted, new-table, few-rows, still-whole, room_whole, fits-sized}
use Rattle.edit.specs.Known.{known-after}
use Rattle.finish.specs.Finished.{small-live}
use Rattle.edit.proofs.apply_change.Goals as goal

pub entry_size-requires : goal.entry_size-requires
entry_size-requires c = c.requires.2.sized

pub make_room-free-requires : goal.make_room-free-requires
make_room-free-requires c = let z = c.requires.2.sized in let e = c.entry_size.ensures in (c.requires.0, omega arith, c.requires.1)

pub add-requires : goal.add-requires
add-requires c = (
  room_whole _ _ _ _ _ _ c.requires.0.whole c.make_room-free.ensures,
  c.make_room-free.ensures.is_sound,
  c.requires.2.formed,
  c.requires.2.sized,
  fits-sized _ _ _ _ c.make_room-free.ensures.room c.entry_size.ensures,
)

pub live_paths-live-requires : goal.live_paths-live-requires
live_paths-live-requires c = let p = c.requires in
    let a = c.args in
    let r = c.make_room-free.ensures in
    let m = c.add.ensures in (
      m.but_live,
      few-rows _ _ _ [] a.work.now _ _ _ _ p.0.whole p.0.is_sound p.2 r m,
      still-whole _ _ _ [] a.work.now _ _ _ _ p.0.whole p.0.is_sound p.2 r m,
      known-after _ _ _ _ p.3 (new-table _ _ _ [] a.work.now _ _ _ _ p.0.whole p.0.is_sound p.2 r m),
    )

pub set_live-requires : goal.set_live-requires
set_live-requires c = let p = c.requires in
    let a = c.args in
    let r = c.make_room-free.ensures in
    let m = c.add.ensures in
    small-live _ _ (still-whole _ _ _ [] a.work.now _ _ _ _ p.0.whole p.0.is_sound p.2 r m) (few-rows _ _ _ [] a.work.now _ _ _ _ p.0.whole p.0.is_sound p.2 r m) c.live_paths-live.ensures

pub returns : goal.returns
returns c = let p = c.requires in
    let a = c.args in
    let r = c.make_room-free.ensures in
    let m = c.add.ensures in
    edited _ _ _ _ a.work.now _ _ _ _ p.0.whole p.0.is_sound p.2 r m
    (counted _ _ (still-whole _ _ _ [] a.work.now _ _ _ _ p.0.whole p.0.is_sound p.2 r m) m.but_live (few-rows _ _ _ [] a.work.now _ _ _ _ p.0.whole p.0.is_sound p.2 r m) _ c.live_paths-live.ensures c.set_live.ensures)
