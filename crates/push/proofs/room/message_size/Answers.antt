-- `message_size` meets its contract, by the kind of the message. Relies on node's steps of the writer.
use Rattle.image.specs.Prelude.{arith}
use Rattle.node.specs.Writer.{putting-takes, dropping-takes, clearing-takes}
use Rattle.push.proofs.room.message_size.Goals as goal

pub overflow_add-result-in-Put : goal.overflow_add-result-in-Put
overflow_add-result-in-Put c = let z = putting-takes _ _ _ c.in-Put.is in omega arith

pub returns-in-Put : goal.returns-in-Put
returns-in-Put c = let z = putting-takes _ _ _ c.in-Put.is in omega arith

pub returns-in-Drop : goal.returns-in-Drop
returns-in-Drop c = let z = dropping-takes _ _ c.in-Drop.is in omega arith

pub returns-in-Clear : goal.returns-in-Clear
returns-in-Clear c = let z = clearing-takes _ _ c.in-Clear.is in omega arith
