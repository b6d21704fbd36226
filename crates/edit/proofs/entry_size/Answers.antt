-- `entry_size` meets its contract. Relies on node's sizes of entries.
use Rattle.image.specs.Prelude.{sym, arith}
use Rattle.node.specs.Writer.{putting-takes, dropping-takes, clearing-takes}
use Rattle.edit.proofs.entry_size.Goals as goal

pub overflow_add-result-in-Put : goal.overflow_add-result-in-Put
overflow_add-result-in-Put c = let l = putting-takes _ _ _ c.in-Put.is in let r = c.requires in omega arith

pub returns-in-Put : goal.returns-in-Put
returns-in-Put c = sym (putting-takes _ _ _ c.in-Put.is)

pub returns-in-Drop : goal.returns-in-Drop
returns-in-Drop c = sym (dropping-takes _ _ c.in-Drop.is)

pub returns-in-Clear : goal.returns-in-Clear
returns-in-Clear c = sym (clearing-takes _ _ c.in-Clear.is)
