-- `splicelog_batch` meets its contract: the front of the buffer is lent, and the answer told as one word. Relies on specs/BatchWord.
use Rattle.splicelog.specs.BatchWord.{room_small, batch-small, front-small, front-meets}
use Rattle.image.specs.Prelude.{arith}
use Rattle.splicelog.proofs.splicelog_batch.Goals as goal

pub slice_bounds-batch-end : goal.slice_bounds-batch-end
slice_bounds-batch-end c = let k = room_small _ _ c.answers_room-room.ensures in omega (arith, k.0)

pub batch_word-requires : goal.batch_word-requires
batch_word-requires c = batch-small _ _ _ _ _ _ _ _ _ _ c.batch.ensures (front-small c.args.answers.now _ c.answers_room-room.ensures)

pub returns : goal.returns
returns c = let all = front-meets c.args.answers.now _ c.answers_room-room.ensures _ _ _ _ _ _ _ _ _ _ c.batch.ensures c.batch_word.ensures in record { batch_meets = all.0; behind = all.1 }
