-- What falls from one call of the cycle to the next: the level first; then 2 for the list of a node's children, 1 for a child, 0 for a node. The loop
-- over the list: what is held is of the children that were passed, and the walk is what is left of it. Relies on specs/ChildSteps.
use Rattle.std.specs.Prelude.{◌*◌, ◌+◌, length}
use Rattle.path.specs.Fed.{shape_is}
use Rattle.image.specs.Entry.{entries_of}
use Rattle.image.specs.Image.{tree_at}
use Rattle.node.specs.Entries.{list_of}
use Rattle.tree_check.specs.Node.Inside.{branches_run}
use Rattle.tree_check.specs.Count.{plus, only_node, branches_count}
use Rattle.tree_check.specs.Walk.{node_run}
use Rattle.tree_check.specs.ChildSteps.{ListLeft}
use Rattle.tree_check.proofs.+check_node_check_children_check_child.Given as goal

abbrev pub decreases-check_child : goal.decreases-check_child
decreases-check_child l = l.parent.level * 3 + 1

abbrev pub decreases-check_children : goal.decreases-check_children
decreases-check_children l = l.parent.level * 3 + 2

abbrev pub decreases-check_node : goal.decreases-check_node
decreases-check_node l = l.level * 3

abbrev pub invariant-check_children-loop-next : goal.invariant-check_children-loop-next
invariant-check_children-loop-next l = ListLeft l.parent.level l.store (shape_is l.parent.shape) l.parent.low.now l.parent.high.now l.child l.low l.rest l.seen (branches_run (node_run l.parent.level l.store) (shape_is l.parent.shape) l.parent.low.now l.parent.high.now l.first l.parent.low.now (entries_of l.entries) l.initial.seen) (plus only_node (branches_count (tree_at l.parent.level l.store) l.first (list_of l.entries))) l.held

abbrev pub decreases-check_children-loop-next : goal.decreases-check_children-loop-next
decreases-check_children-loop-next l = length l.rest
