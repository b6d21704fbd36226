-- `node_count` is `nodes_of` the length.
-- Relies on Layout.
use Rattle.tree_check.specs.Layout.{nodes-are}
use Rattle.tree_check.proofs.header.node_count.Goals as goal

pub returns : goal.returns
returns c = nodes-are _
