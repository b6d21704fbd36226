-- The cycle of the check: a node, the list of children in it with the messages behind, and one child, which is a node again. The measure: the level
-- first; then 2 for the list, 1 for a child, 0 for a node. Relies on the exits in specs (NodeSteps, ChildSteps) and on Sequence.
use Rattle.std.specs.Prelude.{length}
use Rattle.std.proofs.Common.{rules}
use Rattle.tree_check.specs.NodeSteps.{number-low, number_past, reached-before, level-zero, node-leaf, no-first, branches-found, list-begins}
use Rattle.tree_check.specs.ChildSteps.{child-out, child-flat, child-walk, child-stops, child-passed, unread-stops, last-stops, last-passed}
use Rattle.tree_check.specs.Sequence.{rest-stops, rest-done}
use Rattle.laws.specs.WriteNode.{in-store}
use Rattle.image.specs.Prelude.{arith}
use Rattle.path.specs.Fed.{shape_is}
use Rattle.tree_check.proofs.+check_node_check_children_check_child.Goals as goal

pub check_child-returns-then-not-owned : goal.check_child-returns-then-not-owned
check_child-returns-then-not-owned t c = child-out c.args.parent.level c.args.store.now (shape_is c.args.parent.shape) c.args.parent.low.now c.args.parent.high.now c.args.num c.args.low.now c.args.high.now c.args.seen.now _ c.owned.ensures c.if-not-owned.true _

pub check_child-returns-then-not-precedes : goal.check_child-returns-then-not-precedes
check_child-returns-then-not-precedes t c = child-flat c.args.parent.level c.args.store.now (shape_is c.args.parent.shape) c.args.parent.low.now c.args.parent.high.now c.args.num c.args.low.now c.args.high.now c.args.seen.now _ c.precedes.ensures c.if-not-precedes.true _

pub check_child-check_node-requires : goal.check_child-check_node-requires
check_child-check_node-requires t c = (omega arith, c.requires)

pub check_child-returns : goal.check_child-returns
check_child-returns t c = child-walk c.args.parent.level c.args.store.now (shape_is c.args.parent.shape) c.args.parent.low.now c.args.parent.high.now c.args.num c.args.low.now c.args.high.now c.args.seen.now _ _ c.owned.ensures c.if-not-owned.false c.precedes.ensures c.if-not-precedes.false c.common_length-k.result c.common_length-k.result c.common_length-k.ensures.0 (omega arith) _ c.feed-deeper.ensures _ _ c.check_node.ensures

pub check_node-returns-then-num-lt1 : goal.check_node-returns-then-num-lt1
check_node-returns-then-num-lt1 t c = number-low c.args.store.now c.args.num c.args.level (shape_is c.args.sh) c.args.lo.now c.args.hi.now c.args.seen.now c.if-num-lt1.true _

pub check_node-returns-then-node_count-num : goal.check_node-returns-then-node_count-num
check_node-returns-then-node_count-num t c = number_past c.args.store.now c.args.num c.args.level (shape_is c.args.sh) c.args.lo.now c.args.hi.now c.args.seen.now _ c.node_count.ensures c.if-node_count-num.true _

pub check_node-returns-then-level-lt1 : goal.check_node-returns-then-level-lt1
check_node-returns-then-level-lt1 t c = level-zero c.args.store.now c.args.num c.args.level (shape_is c.args.sh) c.args.lo.now c.args.hi.now c.args.seen.now c.if-level-lt1.true _

pub check_node-returns-then-seen-num-ne0 : goal.check_node-returns-then-seen-num-ne0
check_node-returns-then-seen-num-ne0 t c = reached-before c.args.store.now c.args.num c.args.level (shape_is c.args.sh) c.args.lo.now c.args.hi.now c.args.seen.now (λ h. omega (arith, h, c.if-seen-num-ne0.true)) _

pub check_node-check_leaf-requires : goal.check_node-check_leaf-requires
check_node-check_leaf-requires t c = in-store (length c.args.store.now) c.args.num (omega arith)

pub check_node-returns-then-level-eq1 : goal.check_node-returns-then-level-eq1
check_node-returns-then-level-eq1 t c = node-leaf c.args.store.now c.args.num c.args.level (shape_is c.args.sh) c.args.lo.now c.args.hi.now c.args.seen.now _ c.node_count.ensures (omega arith) (omega arith) (omega arith) (omega arith) _ c.check_leaf.ensures

pub check_node-first_child-requires : goal.check_node-first_child-requires
check_node-first_child-requires t c = in-store (length c.args.store.now) c.args.num (omega arith)

pub check_node-returns-in_err-first : goal.check_node-returns-in_err-first
check_node-returns-in_err-first t c = rw c.from_residual.ensures (no-first c.args.store.now c.args.num c.args.level (shape_is c.args.sh) c.args.lo.now c.args.hi.now c.args.seen.now (omega arith) c.in_err-first.ensures _)

pub check_node-check_children-requires : goal.check_node-check_children-requires
check_node-check_children-requires t c = (omega arith, c.requires)

pub check_node-returns : goal.check_node-returns
check_node-returns t c = branches-found c.args.store.now c.args.num c.args.level (shape_is c.args.sh) c.args.lo.now c.args.hi.now c.args.seen.now _ c.node_count.ensures (omega (arith, c.if-num-lt1.false)) (omega (arith, c.if-node_count-num.false)) (omega (arith, c.if-seen-num-ne0.false)) (omega (arith, c.if-level-lt1.false, c.if-level-eq1.false)) _ _ c.in_ok-first.ensures _ _ c.check_children.ensures

pub check_children-loop-next-init : goal.check_children-loop-next-init
check_children-loop-next-init t c = list-begins _ _

pub check_children-returns-in_err-check_child : goal.check_children-returns-in_err-check_child
check_children-returns-in_err-check_child t c = rw c.from_residual.ensures (child-stops c.args.parent.level c.args.store.now (shape_is c.args.parent.shape) c.args.parent.low.now c.args.parent.high.now c.loop-next.child c.loop-next.low.now c.loop-next.rest.now c.loop-next.seen _ _ _ c.in-Some.ensures _ _ c.loop-next.held c.loop-next.invariant _ _ c.check_child.ensures c.in_err-check_child.was _)

pub check_children-loop-next-preserved : goal.check_children-loop-next-preserved
check_children-loop-next-preserved t c = child-passed c.args.parent.level c.args.store.now (shape_is c.args.parent.shape) c.args.parent.low.now c.args.parent.high.now c.loop-next.child c.loop-next.low.now c.loop-next.rest.now c.loop-next.seen _ _ _ c.in-Some.ensures _ _ c.loop-next.held c.loop-next.invariant _ _ c.check_child.ensures _ _ c.in_ok-check_child.was c.joined-held.ensures

pub check_children-returns-in_err-read_entry : goal.check_children-returns-in_err-read_entry
check_children-returns-in_err-read_entry t c = rw c.from_residual-in_err-read_entry.ensures (unread-stops c.args.parent.level c.args.store.now (shape_is c.args.parent.shape) c.args.parent.low.now c.args.parent.high.now c.loop-next.child c.loop-next.low.now c.loop-next.rest.now c.loop-next.seen _ _ c.loop-next.held c.loop-next.invariant (search rules) c.in_err-read_entry.ensures _)

pub check_children-returns-in_err-check_child-2 : goal.check_children-returns-in_err-check_child-2
check_children-returns-in_err-check_child-2 t c = rw c.from_residual-in_err-check_child-2.ensures (last-stops c.args.parent.level c.args.store.now (shape_is c.args.parent.shape) c.args.parent.low.now c.args.parent.high.now c.loop-next.child c.loop-next.low.now c.loop-next.rest.now c.loop-next.seen c.in_default.ensures _ _ c.loop-next.held c.loop-next.invariant _ _ c.check_child-2.ensures c.in_err-check_child-2.was _)

pub check_children-returns-in_err-waiting : goal.check_children-returns-in_err-waiting
check_children-returns-in_err-waiting t c = rw c.from_residual-in_err-waiting.ensures (rest-stops _ _ _ _ _ (last-passed c.args.parent.level c.args.store.now (shape_is c.args.parent.shape) c.args.parent.low.now c.args.parent.high.now c.loop-next.child c.loop-next.low.now c.loop-next.rest.now c.loop-next.seen c.in_default.ensures _ _ c.loop-next.held c.loop-next.invariant _ _ c.check_child-2.ensures _ _ c.in_ok-check_child-2.was c.joined-held-2.ensures) _ _ (c.check_messages.ensures _) c.in_err-waiting.was _)

pub check_children-returns : goal.check_children-returns
check_children-returns t c = rest-done _ _ _ _ _ (last-passed c.args.parent.level c.args.store.now (shape_is c.args.parent.shape) c.args.parent.low.now c.args.parent.high.now c.loop-next.child c.loop-next.low.now c.loop-next.rest.now c.loop-next.seen c.in_default.ensures _ _ c.loop-next.held c.loop-next.invariant _ _ c.check_child-2.ensures _ _ c.in_ok-check_child-2.was c.joined-held-2.ensures) _ _ (c.check_messages.ensures _) _ _ c.in_ok-waiting.was c.joined.ensures
