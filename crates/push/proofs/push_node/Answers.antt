-- `push_node` meets its contract: the copy of the page lists the node's entries, and each exit keeps the promise. Relies on specs/NodeSteps.
use Rattle.std.proofs.Common.{rules}
use Rattle.image.specs.Prelude.{arith, sym, ◌∙◌}
use Rattle.push.specs.NodeSteps.{no_room, copy-size, copied-lists, node_in, entries-short, apart, children-short, uncovered, small, stays-long, all_done}
use Rattle.push.proofs.push_node.Goals as goal

pub overflow_mul-num : goal.overflow_mul-num
overflow_mul-num c = let i = node_in _ _ _ c.requires in omega arith

pub read_level-level-requires : goal.read_level-level-requires
read_level-level-requires c = let i = node_in _ _ _ c.requires in omega arith

pub copy_node-requires : goal.copy_node-requires
copy_node-requires c = node_in _ _ _ c.requires

pub of_node-entries-requires : goal.of_node-entries-requires
of_node-entries-requires c = let z = copy-size _ _ (node_in _ _ _ c.requires) _ c.copy_node.ensures in omega arith

pub returns-then-not-has_messages : goal.returns-then-not-has_messages
returns-then-not-has_messages c =
    uncovered _ _ _ c.requires _ (copied-lists _ _ _ c.requires _ c.copy_node.ensures _ c.of_node-entries.ensures.lists) _ c.among-children.ensures.pending (search rules)

pub all_fit-requires : goal.all_fit-requires
all_fit-requires c = entries-short _ _ _ c.requires _ (copied-lists _ _ _ c.requires _ c.copy_node.ensures _ c.of_node-entries.ensures.lists) _ c.among-children.ensures.pending

pub returns-then-not-all_fit : goal.returns-then-not-all_fit
returns-then-not-all_fit c = no_room _ _

pub push_children-requires : goal.push_children-requires
push_children-requires c =
    (search rules, apart _ _ _ c.requires _ (copied-lists _ _ _ c.requires _ c.copy_node.ensures _ c.of_node-entries.ensures.lists) _ c.among-children.ensures.pending)

pub clear_messages-requires : goal.clear_messages-requires
clear_messages-requires c =
    let i = node_in _ _ _ c.requires in
    let n = stays-long _ _ _ c.requires _ (copied-lists _ _ _ c.requires _ c.copy_node.ensures _ c.of_node-entries.ensures.lists) _ c.among-children.ensures.pending
    _ c.among-children.ensures.high (sym c.all_fit.ensures ∙ c.if-not-all_fit.false) _ c.push_children.ensures in (
      omega arith,
      c.read_level-level.ensures.1,
      children-short _ _ _ c.requires _ (copied-lists _ _ _ c.requires _ c.copy_node.ensures _ c.of_node-entries.ensures.lists) _ c.among-children.ensures.pending,
      small _ _ _ c.requires _ (copied-lists _ _ _ c.requires _ c.copy_node.ensures _ c.of_node-entries.ensures.lists) _ c.among-children.ensures.pending
          _ c.among-children.ensures.high (sym c.all_fit.ensures ∙ c.if-not-all_fit.false),
    )

pub returns : goal.returns
returns c =
    all_done _ _ _ c.requires _ (copied-lists _ _ _ c.requires _ c.copy_node.ensures _ c.of_node-entries.ensures.lists) _ c.among-children.ensures.pending
    _ c.among-children.ensures.high (sym c.all_fit.ensures ∙ c.if-not-all_fit.false)
    _ c.read_level-level.ensures.0 _ _ c.push_children.ensures c.clear_messages.ensures
