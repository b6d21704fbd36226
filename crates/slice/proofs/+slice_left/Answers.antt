-- `slice_left` meets its contract. The level falls from a node to its child. The page of a node is composed from the copy of the node, so that what the
-- child writes does not matter to it. Relies on specs/LeftSteps.
use Rattle.std.proofs.Common.{rules, of_calls}
use Rattle.std.specs.Prelude.{refl, length, ◌++◌, ◌+◌, get_or}
use Rattle.image.specs.Prelude.{ap, ap₂, ◌∙◌, arith}
use Rattle.laws.specs.Filter.{up_to}
use Rattle.laws.specs.Page.{page}
use Rattle.laws.specs.WriteNode.{write_node}
use Rattle.node.specs.Spans.{pending_of}
use Rattle.slice.specs.Left.{from}
use Rattle.slice.specs.Point.{before_line}
use Rattle.slice.specs.LeftSteps.{left-inside, left-level, left-new, copy-entries, copied, leaf-fits, leaf-written, branches-small, inner-fits, child-asks, inner-written, strip-short, strip-asks, strip-bare, strip-written, held-asks, held-at, missed-at}
use Rattle.slice.proofs.+slice_left.Goals.{in-Some, in_default}
use Rattle.slice.proofs.+slice_left.Goals as goal

pub slice_bounds-cut-count : goal.slice_bounds-cut-count
slice_bounds-cut-count t c = strip-short _ _ _ _ _ _ _ _ c.requires _ c.common_length-lifted.ensures.0

pub slice_bounds-cut-start : goal.slice_bounds-cut-start
slice_bounds-cut-start t c = let f = strip-short _ _ _ _ _ _ _ _ c.requires _ c.common_length-lifted.ensures.0 in omega arith

pub copy_node-requires : goal.copy_node-requires
copy_node-requires t c = left-inside _ _ _ _ _ _ _ _ c.requires

pub of_node-entries-requires : goal.of_node-entries-requires
of_node-entries-requires t c = (copy-entries _ _ _ c.requires.reads _ c.copy_node.ensures).0

pub bounds-free-at : goal.bounds-free-at
bounds-free-at t c = let e = c.requires.enough in let l = left-level _ _ _ _ _ _ _ _ c.requires in omega arith

pub write_pairs-requires : goal.write_pairs-requires
write_pairs-requires t c =
    let r = strip-asks _ _ _ _ _ _ _ _ c.requires _ c.common_length-lifted.ensures.0 in
    let b = strip-bare _ _ _ _ _ _ _ _ c.requires _ c.common_length-lifted.ensures.0 in
    let l = copied _ _ _ c.requires.reads _ c.copy_node.ensures _ c.of_node-entries.ensures.lists in (
      search of_calls,
      left-new _ _ _ _ _ _ _ _ c.requires _ refl,
      (up_to (from c.common_length-lifted.result c.args.k.now), λ k b h. search rules, leaf-fits _ _ _ _ _ _ _ _ r b _ l _ c.common_length-d.ensures.0 (omega arith)),
    )

pub returns-then-level-le1 : goal.returns-then-level-le1
returns-then-level-le1 t c =
    let r = strip-asks _ _ _ _ _ _ _ _ c.requires _ c.common_length-lifted.ensures.0 in
    let b = strip-bare _ _ _ _ _ _ _ _ c.requires _ c.common_length-lifted.ensures.0 in
    let l = copied _ _ _ c.requires.reads _ c.copy_node.ensures _ c.of_node-entries.ensures.lists in
    strip-written _ _ _ _ _ _ _ _ c.requires _ c.common_length-lifted.ensures.0 _
    (leaf-written _ _ _ _ _ _ _ _ r b _ l _ c.common_length-d.ensures.0 (omega arith) _ _ refl (c.write_pairs.ensures (up_to (from c.common_length-lifted.result c.args.k.now)) (λ k b h. search rules)))

pub emit_left-held-requires : goal.emit_left-held-requires
emit_left-held-requires t c =
    let r = strip-asks _ _ _ _ _ _ _ _ c.requires _ c.common_length-lifted.ensures.0 in
    let b = strip-bare _ _ _ _ _ _ _ _ c.requires _ c.common_length-lifted.ensures.0 in
    let l = copied _ _ _ c.requires.reads _ c.copy_node.ensures _ c.of_node-entries.ensures.lists in
    let f = inner-fits _ _ _ _ _ _ _ _ r b _ l _ c.common_length-d.ensures.0 (omega arith) _ c.among-children.ensures.pending _ refl in
    let z = ap length c.new-page.ensures in
    rw c.among-children.ensures.high (omega arith, branches-small _ _ _ _ _ _ _ _ r b _ l _ c.common_length-d.ensures.0 (omega arith) _ c.among-children.ensures.pending, search rules)

pub slice_left-requires : goal.slice_left-requires
slice_left-requires t c =
    let r = strip-asks _ _ _ _ _ _ _ _ c.requires _ c.common_length-lifted.ensures.0 in
    let b = strip-bare _ _ _ _ _ _ _ _ c.requires _ c.common_length-lifted.ensures.0 in
    let l = copied _ _ _ c.requires.reads _ c.copy_node.ensures _ c.of_node-entries.ensures.lists in (
      omega arith,
      held-asks _ _ _ _ _ _ _ (rw c.among-children.ensures.high at c.in-Some.ensures.1)
          (child-asks _ _ _ _ _ _ _ _ r b _ l _ c.common_length-d.ensures.0 (omega arith) _ c.among-children.ensures.pending),
    )

pub write-requires : goal.write-requires
write-requires t c =
    let n = left-new _ _ _ _ _ _ _ _ c.requires _ refl in let v = c.requires.levels in (omega arith, omega arith, omega arith)

pub returns : goal.returns
returns t c =
    let r = strip-asks _ _ _ _ _ _ _ _ c.requires _ c.common_length-lifted.ensures.0 in
    let b = strip-bare _ _ _ _ _ _ _ _ c.requires _ c.common_length-lifted.ensures.0 in
    let l = copied _ _ _ c.requires.reads _ c.copy_node.ensures _ c.of_node-entries.ensures.lists in
    strip-written _ _ _ _ _ _ _ _ c.requires _ c.common_length-lifted.ensures.0 _
    (inner-written _ _ _ _ _ _ _ _ r b _ l _ c.common_length-d.ensures.0 (omega arith) _ c.among-children.ensures.pending _ refl _ _ _ refl
    (elim c.match-held.branch [
      | in-Some w ↦ w.store-is ∙ held-at _ _ _ _ _ _ _ (rw c.among-children.ensures.high at w.in-Some.ensures.1) _ w.slice_left.ensures
      | in_default w ↦ w.store-is ∙ missed-at _ _ _ _ _ _ (rw c.among-children.ensures.high at w.in_default.ensures.1)
    ])
    (c.write.ensures ∙ ap (λ l. write_node c.match-held.store (get_or c.args.free.now c.args.slot.at 0) (page 2 c.args.slot.level l))
    (c.emit_left-held.ensures.0 ∙ ap₂ (λ x h. x ++ before_line c.common_length-d.result (get_or c.args.free.now (c.args.slot.at + 1) 0) (pending_of c.among-children.result) h (from c.common_length-lifted.result c.args.k.now)) c.new-page.ensures c.among-children.ensures.high)))
