-- `message_good` meets its contract. Relies on specs/Node/Messages.
use Rattle.std.proofs.Common.{rules}
use Rattle.tree_check.specs.Node.Messages.{clear-shape}
use Rattle.tree_check.proofs.node_check.message_good.Goals as goal

pub returns-else-is_empty : goal.returns-else-is_empty
returns-else-is_empty c = rw c.in-Clear.is (clear-shape _ _ _ _ _ (search rules) c.goes_on-else-is_empty.ensures)
