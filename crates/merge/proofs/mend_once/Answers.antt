-- `mend_once` meets its contract: the copy of the node lists the node's entries. Relies on specs/NodeSteps.
use Rattle.image.specs.Prelude.{arith}
use Rattle.merge.specs.Laws.Mended.{node-inside}
use Rattle.push.specs.NodeSteps.{copy-size}
use Rattle.merge.specs.NodeSteps.{room, children-fit, once-done}
use Rattle.merge.proofs.mend_once.Goals as goal

pub overflow_mul-num : goal.overflow_mul-num
overflow_mul-num c = let i = node-inside _ _ _ c.requires in omega arith

pub read_level-level-requires : goal.read_level-level-requires
read_level-level-requires c = let i = node-inside _ _ _ c.requires in omega arith

pub copy_node-requires : goal.copy_node-requires
copy_node-requires c = node-inside _ _ _ c.requires

pub of_node-entries-requires : goal.of_node-entries-requires
of_node-entries-requires c = let z = copy-size _ _ (node-inside _ _ _ c.requires) _ c.copy_node.ensures in omega arith

pub join_first-requires : goal.join_first-requires
join_first-requires c = (
  room _ _ _ c.requires _ c.copy_node.ensures _ c.of_node-entries.ensures.lists _ c.read_level-level.ensures.1,
  children-fit _ _ _ c.requires _ c.copy_node.ensures _ c.of_node-entries.ensures.lists _ c.among.ensures.pending,
)

pub returns : goal.returns
returns c =
    once-done _ _ _ c.requires _ c.copy_node.ensures _ c.of_node-entries.ensures.lists _ c.among.ensures.pending _ c.among.ensures.high _ c.read_level-level.ensures.0 _ _
    c.join_first.ensures.0 c.join_first.ensures.1
