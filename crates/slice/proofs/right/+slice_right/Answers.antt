-- `slice_right` meets its contract. The level falls from a node to its child. Relies on specs/RightSteps.
use Rattle.std.proofs.Common.{rules, of_calls}
use Rattle.std.specs.Prelude.{refl, ◌≡◌, ◌-◌, length}
use Rattle.image.specs.Prelude.{sym, ap, subst, ◌∙◌, arith, length-drop, length-take-le}
use Rattle.laws.specs.Filter.{since}
use Rattle.lookup.specs.Look.{part-rest}
use Rattle.node.specs.Spans.{pending_of}
use Rattle.slice.specs.Slicing.Slice.{after}
use Rattle.slice.specs.Callers.{top-bare}
use Rattle.slice.specs.Left.{from}
use Rattle.slice.specs.LeftSteps.{copy-entries, copied}
use Rattle.slice.specs.Point.{point_of, Held}
use Rattle.slice.specs.Right.{EdgeAs}
use Rattle.slice.specs.RightSteps.{after-wide, after-narrow, right-inside, right-level, right_new, leaf-fits, leaf-done, branches-short, asks, wide-ready, wide-done, narrow-ready, narrow-done, strip-short, strip-asks, strip-done, held-answer, missed-answer}
use Rattle.slice.proofs.right.+slice_right.Goals.{then-wide, else-wide, in-Some, in-None}
use Rattle.slice.proofs.right.+slice_right.Goals as goal

pub slice_bounds-cut-count : goal.slice_bounds-cut-count
slice_bounds-cut-count t c = strip-short _ _ _ _ _ _ _ _ _ c.requires.0 _ c.common_length-lifted.ensures.0

pub slice_bounds-cut-start : goal.slice_bounds-cut-start
slice_bounds-cut-start t c = let f = strip-short _ _ _ _ _ _ _ _ _ c.requires.0 _ c.common_length-lifted.ensures.0 in omega arith

pub copy_node-requires : goal.copy_node-requires
copy_node-requires t c = right-inside _ _ _ _ _ _ _ _ _ c.requires.0

pub of_node-entries-requires : goal.of_node-entries-requires
of_node-entries-requires t c = (copy-entries _ _ _ c.requires.0.reads _ c.copy_node.ensures).0

pub bounds-free-at : goal.bounds-free-at
bounds-free-at t c = let e = c.requires.0.enough in let l = right-level _ _ _ _ _ _ _ _ _ c.requires.0 in omega arith

pub write_pairs-requires : goal.write_pairs-requires
write_pairs-requires t c =
    let r = strip-asks _ _ _ _ _ _ _ _ _ c.requires.0 _ c.common_length-lifted.ensures.0 in
    let l = copied _ _ _ c.requires.0.reads _ c.copy_node.ensures _ c.of_node-entries.ensures.lists in (
      search of_calls,
      right_new _ _ _ _ _ _ _ _ _ c.requires.0 _ refl,
      (since (from c.common_length-lifted.result c.args.k.now), λ k b h. search rules, leaf-fits _ _ _ _ _ _ _ _ _ r (top-bare _) _ l (omega arith) _ c.common_length-d.ensures.0),
    )

pub returns-then-level-le1 : goal.returns-then-level-le1
returns-then-level-le1 t c =
    let r = strip-asks _ _ _ _ _ _ _ _ _ c.requires.0 _ c.common_length-lifted.ensures.0 in
    let l = copied _ _ _ c.requires.0.reads _ c.copy_node.ensures _ c.of_node-entries.ensures.lists in
    strip-done _ _ _ _ _ _ _ _ _ c.requires.0 _ c.common_length-lifted.ensures.0 _ _ _
    (leaf-done _ _ _ _ _ _ _ _ _ r (top-bare _) _ l (omega arith) _ c.common_length-d.ensures.0 _ _ _ _ refl (c.write_pairs.ensures (since (from c.common_length-lifted.result c.args.k.now)) (λ k b h. search rules)))

pub slice_right-below-requires : goal.slice_right-below-requires
slice_right-below-requires t c =
    let r = strip-asks _ _ _ _ _ _ _ _ _ c.requires.0 _ c.common_length-lifted.ensures.0 in
    let l = copied _ _ _ c.requires.0.reads _ c.copy_node.ensures _ c.of_node-entries.ensures.lists in
    let q = rw c.among.ensures.high at c.split_children.ensures.1 in
    let a : c.if-wide.inner ≡ after c.args.wide c.args.slot.at =
    elim c.if-wide.branch [
      | then-wide w ↦ w.inner-is ∙ sym (after-wide _ _ w.if-wide.true)
      | else-wide w ↦ w.inner-is ∙ sym (after-narrow _ _ w.if-wide.false)
    ] in
    let z = ap length (part-rest c.common_length-lifted.result c.args.k.now) in
    let d = length-drop c.common_length-lifted.result c.args.k.now in
    let n = c.requires.1 in (
      omega arith,
      (
        asks _ _ _ _ _ _ _ _ _ r (top-bare _) _ l (omega arith) _ c.among.ensures.pending _ q _ a _ (subst (Held (point_of 0 (pending_of c.among.result) (from c.common_length-lifted.result c.args.child.high.now) (from c.common_length-lifted.result c.args.k.now))) c.in-Some.is (rw c.among.ensures.high at c.split_children.ensures.0)),
        omega arith,
      ),
    )

pub write_wide-requires : goal.write_wide-requires
write_wide-requires t c =
    let r = strip-asks _ _ _ _ _ _ _ _ _ c.requires.0 _ c.common_length-lifted.ensures.0 in
    let l = copied _ _ _ c.requires.0.reads _ c.copy_node.ensures _ c.of_node-entries.ensures.lists in
    let q = rw c.among.ensures.high at c.split_children.ensures.1 in
    let a : c.if-wide.inner ≡ after c.args.wide c.args.slot.at =
    elim c.if-wide.branch [
      | then-wide w ↦ w.inner-is ∙ sym (after-wide _ _ w.if-wide.true)
      | else-wide w ↦ w.inner-is ∙ sym (after-narrow _ _ w.if-wide.false)
    ] in
    let answer : EdgeAs c.args.wide (c.args.slot.level - 1) (from c.common_length-lifted.result c.args.k.now) c.if-wide.inner c.args.free.now c.args.store.now c.match-held.store c.match-held.out
    (point_of 0 (pending_of c.among.result) (from c.common_length-lifted.result c.args.child.high.now) (from c.common_length-lifted.result c.args.k.now)) c.match-held.below =
    elim c.match-held.branch [
      | in-Some w ↦ rw (w.store-is, w.out-is, w.below-is)
          (held-answer _ _ _ _ _ _ _ _ (subst (Held (point_of 0 (pending_of c.among.result) (from c.common_length-lifted.result c.args.child.high.now) (from c.common_length-lifted.result c.args.k.now))) w.in-Some.is (rw c.among.ensures.high at c.split_children.ensures.0)) _ _ _ w.slice_right-below.ensures)
      | in-None w ↦ rw (w.store-is, w.out-is, w.below-is)
          (missed-answer _ _ _ _ _ _ _ (subst (Held (point_of 0 (pending_of c.among.result) (from c.common_length-lifted.result c.args.child.high.now) (from c.common_length-lifted.result c.args.k.now))) w.in-None.is (rw c.among.ensures.high at c.split_children.ensures.0)) _)
    ] in
    rw (c.split_children.ensures.2, c.among.ensures.high)
    (wide-ready _ _ _ _ _ _ _ _ _ r (top-bare _) _ l (omega arith) _ c.among.ensures.pending _ q _ (sym a) _ _ _ answer c.if-wide-2.true (a ∙ after-wide _ _ c.if-wide-2.true) _ (omega arith))

pub slice_bounds-tell_both-end : goal.slice_bounds-tell_both-end
slice_bounds-tell_both-end t c = sym (length-take-le c.common_length-lifted.result c.args.k.now (strip-short _ _ _ _ _ _ _ _ _ c.requires.0 _ c.common_length-lifted.ensures.0))

pub tell_both-requires : goal.tell_both-requires
tell_both-requires t c =
    let r = strip-asks _ _ _ _ _ _ _ _ _ c.requires.0 _ c.common_length-lifted.ensures.0 in
    let l = copied _ _ _ c.requires.0.reads _ c.copy_node.ensures _ c.of_node-entries.ensures.lists in
    let q = rw c.among.ensures.high at c.split_children.ensures.1 in
    let j = strip-short _ _ _ _ _ _ _ _ _ c.requires.0 _ c.common_length-lifted.ensures.0 in
    let z = length-take-le c.common_length-lifted.result c.args.k.now j in
    let n = c.requires.1 in
    (branches-short _ _ _ _ _ _ _ _ _ r (top-bare _) _ l (omega arith) _ c.among.ensures.pending _ q, omega arith)

pub returns-then-wide-2 : goal.returns-then-wide-2
returns-then-wide-2 t c =
    let r = strip-asks _ _ _ _ _ _ _ _ _ c.requires.0 _ c.common_length-lifted.ensures.0 in
    let l = copied _ _ _ c.requires.0.reads _ c.copy_node.ensures _ c.of_node-entries.ensures.lists in
    let q = rw c.among.ensures.high at c.split_children.ensures.1 in
    let a : c.if-wide.inner ≡ after c.args.wide c.args.slot.at =
    elim c.if-wide.branch [
      | then-wide w ↦ w.inner-is ∙ sym (after-wide _ _ w.if-wide.true)
      | else-wide w ↦ w.inner-is ∙ sym (after-narrow _ _ w.if-wide.false)
    ] in
    let answer : EdgeAs c.args.wide (c.args.slot.level - 1) (from c.common_length-lifted.result c.args.k.now) c.if-wide.inner c.args.free.now c.args.store.now c.match-held.store c.match-held.out
    (point_of 0 (pending_of c.among.result) (from c.common_length-lifted.result c.args.child.high.now) (from c.common_length-lifted.result c.args.k.now)) c.match-held.below =
    elim c.match-held.branch [
      | in-Some w ↦ rw (w.store-is, w.out-is, w.below-is)
          (held-answer _ _ _ _ _ _ _ _ (subst (Held (point_of 0 (pending_of c.among.result) (from c.common_length-lifted.result c.args.child.high.now) (from c.common_length-lifted.result c.args.k.now))) w.in-Some.is (rw c.among.ensures.high at c.split_children.ensures.0)) _ _ _ w.slice_right-below.ensures)
      | in-None w ↦ rw (w.store-is, w.out-is, w.below-is)
          (missed-answer _ _ _ _ _ _ _ (subst (Held (point_of 0 (pending_of c.among.result) (from c.common_length-lifted.result c.args.child.high.now) (from c.common_length-lifted.result c.args.k.now))) w.in-None.is (rw c.among.ensures.high at c.split_children.ensures.0)) _)
    ] in
    strip-done _ _ _ _ _ _ _ _ _ c.requires.0 _ c.common_length-lifted.ensures.0 _ _ _
    (wide-done _ _ _ _ _ _ _ _ _ r (top-bare _) _ l (omega arith) _ c.among.ensures.pending _ q _ (sym a) _ _ _ answer c.if-wide-2.true (a ∙ after-wide _ _ c.if-wide-2.true) _ _ _ _
    (rw (c.split_children.ensures.2, c.among.ensures.high) at c.write_wide.ensures) c.tell_both.ensures)

pub write_narrow-requires : goal.write_narrow-requires
write_narrow-requires t c =
    let r = strip-asks _ _ _ _ _ _ _ _ _ c.requires.0 _ c.common_length-lifted.ensures.0 in
    let l = copied _ _ _ c.requires.0.reads _ c.copy_node.ensures _ c.of_node-entries.ensures.lists in
    let q = rw c.among.ensures.high at c.split_children.ensures.1 in
    let a : c.if-wide.inner ≡ after c.args.wide c.args.slot.at =
    elim c.if-wide.branch [
      | then-wide w ↦ w.inner-is ∙ sym (after-wide _ _ w.if-wide.true)
      | else-wide w ↦ w.inner-is ∙ sym (after-narrow _ _ w.if-wide.false)
    ] in
    let answer : EdgeAs c.args.wide (c.args.slot.level - 1) (from c.common_length-lifted.result c.args.k.now) c.if-wide.inner c.args.free.now c.args.store.now c.match-held.store c.match-held.out
    (point_of 0 (pending_of c.among.result) (from c.common_length-lifted.result c.args.child.high.now) (from c.common_length-lifted.result c.args.k.now)) c.match-held.below =
    elim c.match-held.branch [
      | in-Some w ↦ rw (w.store-is, w.out-is, w.below-is)
          (held-answer _ _ _ _ _ _ _ _ (subst (Held (point_of 0 (pending_of c.among.result) (from c.common_length-lifted.result c.args.child.high.now) (from c.common_length-lifted.result c.args.k.now))) w.in-Some.is (rw c.among.ensures.high at c.split_children.ensures.0)) _ _ _ w.slice_right-below.ensures)
      | in-None w ↦ rw (w.store-is, w.out-is, w.below-is)
          (missed-answer _ _ _ _ _ _ _ (subst (Held (point_of 0 (pending_of c.among.result) (from c.common_length-lifted.result c.args.child.high.now) (from c.common_length-lifted.result c.args.k.now))) w.in-None.is (rw c.among.ensures.high at c.split_children.ensures.0)) _)
    ] in
    rw (c.split_children.ensures.2, c.among.ensures.high)
    (narrow-ready _ _ _ _ _ _ _ _ _ r (top-bare _) _ l (omega arith) _ c.among.ensures.pending _ q _ (sym a) _ _ _ answer c.if-wide-2.false (a ∙ after-narrow _ _ c.if-wide-2.false) _ (omega arith))

pub returns : goal.returns
returns t c =
    let r = strip-asks _ _ _ _ _ _ _ _ _ c.requires.0 _ c.common_length-lifted.ensures.0 in
    let l = copied _ _ _ c.requires.0.reads _ c.copy_node.ensures _ c.of_node-entries.ensures.lists in
    let q = rw c.among.ensures.high at c.split_children.ensures.1 in
    let a : c.if-wide.inner ≡ after c.args.wide c.args.slot.at =
    elim c.if-wide.branch [
      | then-wide w ↦ w.inner-is ∙ sym (after-wide _ _ w.if-wide.true)
      | else-wide w ↦ w.inner-is ∙ sym (after-narrow _ _ w.if-wide.false)
    ] in
    let answer : EdgeAs c.args.wide (c.args.slot.level - 1) (from c.common_length-lifted.result c.args.k.now) c.if-wide.inner c.args.free.now c.args.store.now c.match-held.store c.match-held.out
    (point_of 0 (pending_of c.among.result) (from c.common_length-lifted.result c.args.child.high.now) (from c.common_length-lifted.result c.args.k.now)) c.match-held.below =
    elim c.match-held.branch [
      | in-Some w ↦ rw (w.store-is, w.out-is, w.below-is)
          (held-answer _ _ _ _ _ _ _ _ (subst (Held (point_of 0 (pending_of c.among.result) (from c.common_length-lifted.result c.args.child.high.now) (from c.common_length-lifted.result c.args.k.now))) w.in-Some.is (rw c.among.ensures.high at c.split_children.ensures.0)) _ _ _ w.slice_right-below.ensures)
      | in-None w ↦ rw (w.store-is, w.out-is, w.below-is)
          (missed-answer _ _ _ _ _ _ _ (subst (Held (point_of 0 (pending_of c.among.result) (from c.common_length-lifted.result c.args.child.high.now) (from c.common_length-lifted.result c.args.k.now))) w.in-None.is (rw c.among.ensures.high at c.split_children.ensures.0)) _)
    ] in
    let n = rw (c.split_children.ensures.2, c.among.ensures.high) at c.write_narrow.ensures in
    strip-done _ _ _ _ _ _ _ _ _ c.requires.0 _ c.common_length-lifted.ensures.0 _ _ _
    (narrow-done _ _ _ _ _ _ _ _ _ r (top-bare _) _ l (omega arith) _ c.among.ensures.pending _ q _ (sym a) _ _ _ answer c.if-wide-2.false (a ∙ after-narrow _ _ c.if-wide-2.false) _ _ _ n.0 n.1)
