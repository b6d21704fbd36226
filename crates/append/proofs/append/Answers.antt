-- `append` meets its contract: what it writes is `appended`; the room that it requires bounds every place.
use Rattle.std.proofs.Common.{rules}
use Rattle.std.specs.Prelude.{refl}
use Rattle.append.specs.WriteSteps.{appends, room_at, small-store}
use Rattle.append.proofs.append.Goals as goal

pub write_message-end-requires : goal.write_message-end-requires
write_message-end-requires c = let r = room_at _ _ _ _ c.requires.2 c.root_at-at.ensures.0 c.read_length-len.ensures.0 in let w = small-store c.args.store.now c.requires.0 in search rules

pub put_u16-requires : goal.put_u16-requires
put_u16-requires c = let r = room_at _ _ _ _ c.requires.2 c.root_at-at.ensures.0 c.read_length-len.ensures.0 in let w = small-store c.args.store.now c.requires.0 in search rules

pub returns : goal.returns
returns c = appends _ _ _ _ _ _ _ _ _ refl refl c.root_at-at.ensures.0 c.read_length-len.ensures.0 c.write_message-end.ensures.0 c.write_message-end.ensures.1 c.put_u16.ensures
