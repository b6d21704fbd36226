-- `answers_room` meets its contract. Relies on specs/BatchWord.
use Rattle.splicelog.specs.BatchWord.{room_whole, room-part}
use Rattle.splicelog.proofs.answers_room.Goals as goal

pub returns-then-len-le268435455 : goal.returns-then-len-le268435455
returns-then-len-le268435455 c = room_whole _ c.if-len-le268435455.true

pub returns : goal.returns
returns c = room-part _ c.if-len-le268435455.false
