-- `write_left` meets its contract: the entries of both stand one behind the other. Relies on specs/EmitSteps.
use Rattle.std.specs.Prelude.{refl}
use Rattle.image.specs.Prelude.{arith}
use Rattle.merge.specs.EmitSteps.{both-join, left-fits, right-fits, left-written, small-as}
use Rattle.merge.proofs.write_left.Goals as goal

pub overflow_mul-at : goal.overflow_mul-at
overflow_mul-at c = let i = (both-join _ _ _ _ _ _ c.requires).left_in in omega arith

pub read_kind-kind-requires : goal.read_kind-kind-requires
read_kind-kind-requires c = let i = (both-join _ _ _ _ _ _ c.requires).left_in in omega arith

pub read_level-level-requires : goal.read_level-level-requires
read_level-level-requires c = let i = (both-join _ _ _ _ _ _ c.requires).left_in in omega arith

pub of_node-requires : goal.of_node-requires
of_node-requires c = (both-join _ _ _ _ _ _ c.requires).left_in

pub of_node-requires-2 : goal.of_node-requires-2
of_node-requires-2 c = (both-join _ _ _ _ _ _ c.requires).right_in

pub emit_entries-requires : goal.emit_entries-requires
emit_entries-requires c = (
  small-as _ _ c.of_node.ensures.lists (both-join _ _ _ _ _ _ c.requires).left_small,
  left-fits _ _ _ _ _ _ c.requires _ _ c.of_node.ensures.lists refl _ _ c.left_more.ensures refl _ c.new-page.ensures,
)

pub emit_entries-requires-2 : goal.emit_entries-requires-2
emit_entries-requires-2 c = (
  small-as _ _ c.of_node-2.ensures.lists (both-join _ _ _ _ _ _ c.requires).right_small,
  right-fits _ _ _ _ _ _ c.requires _ _ c.of_node.ensures.lists c.of_node-2.ensures.lists _ _ c.left_more.ensures c.right_more.ensures _ c.new-page.ensures _ c.emit_entries.ensures,
)

pub write-requires : goal.write-requires
write-requires c = ((both-join _ _ _ _ _ _ c.requires).left_in, c.read_kind-kind.ensures.1, c.read_level-level.ensures.1)

pub returns : goal.returns
returns c =
    left-written _ _ _ _ _ _ c.requires _ _ c.of_node.ensures.lists c.of_node-2.ensures.lists _ _ c.left_more.ensures c.right_more.ensures _ c.new-page.ensures _ c.emit_entries.ensures
    _ _ _ _ c.read_kind-kind.ensures.0 c.read_level-level.ensures.0 c.emit_entries-2.ensures c.write.ensures
