-- `whole_nodes` meets its contract. Relies on specs/Whole.
use Rattle.std.proofs.Common.{rules}
use Rattle.node.specs.Whole.{ragged, too_few, whole_by}
use Rattle.node.proofs.whole_nodes.Goals as goal

pub returns-then-n-len : goal.returns-then-n-len
returns-then-n-len c = search (rules, ragged)

pub returns-then-n-lt-FEWEST_NODES : goal.returns-then-n-lt-FEWEST_NODES
returns-then-n-lt-FEWEST_NODES c = search (rules, too_few)

pub returns : goal.returns
returns c = search (rules, whole_by)
