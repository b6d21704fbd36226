-- The loop over an interior node's entries: the rows so far, with the entries left, make the same table (specs/InsertSteps).
use Rattle.std.specs.Prelude.{refl}
use Rattle.node.specs.Lent.{entry_is}
use Rattle.live_count.specs.Steps.{key-long, key-lifts}
use Rattle.dump.specs.AppendSteps.{value-short}
use Rattle.dump.specs.InsertSteps.{insert-end, insert-open, insert-next, put-none, put-told, put-hidden, put-absent, put-value, put-room, put-placed}
use Rattle.dump.proofs.insert_puts.Goals as goal

pub loop-entry-preserved-in_default-put_of : goal.loop-entry-preserved-in_default-put_of
loop-entry-preserved-in_default-put_of c = let o = insert-open _ _ _ _ _ _ _ _ c.loop-entry.invariant _ _ c.in-Some.ensures.steps in
    insert-next _ _ _ _ _ _ _ _ c.loop-entry.invariant _ _ c.in-Some.ensures.steps _ _ (put-none _ (entry_is c.in-Some.entry) _ _ _ _ _ o c.in_default-put_of.ensures)

pub loop-entry-preserved-then-not-none_covers : goal.loop-entry-preserved-then-not-none_covers
loop-entry-preserved-then-not-none_covers c = let o = insert-open _ _ _ _ _ _ _ _ c.loop-entry.invariant _ _ c.in-Some.ensures.steps in
    insert-next _ _ _ _ _ _ _ _ c.loop-entry.invariant _ _ c.in-Some.ensures.steps _ _ (put-told _ (entry_is c.in-Some.entry) _ _ _ _ _ o _ _ c.in-Some-put_of.ensures _ c.none_covers.ensures c.if-not-none_covers.true)

pub loop-entry-preserved-in_default-followed_by : goal.loop-entry-preserved-in_default-followed_by
loop-entry-preserved-in_default-followed_by c = let o = insert-open _ _ _ _ _ _ _ _ c.loop-entry.invariant _ _ c.in-Some.ensures.steps in
    insert-next _ _ _ _ _ _ _ _ c.loop-entry.invariant _ _ c.in-Some.ensures.steps _ _ (put-hidden _ (entry_is c.in-Some.entry) _ _ _ _ _ o _ _ c.in-Some-put_of.ensures _ (key-long c.args.prefix.now c.args.trail.now _ c.in_default-followed_by.ensures) refl)

pub is_visible-requires : goal.is_visible-requires
is_visible-requires c = rw c.as_slice-path.ensures.held (c.as_slice-path.ensures.short, key-lifts c.args.prefix.now c.args.trail.now _ _ c.in-Some-followed_by.ensures c.requires.0)

pub loop-entry-preserved-then-not-is_visible : goal.loop-entry-preserved-then-not-is_visible
loop-entry-preserved-then-not-is_visible c = let o = insert-open _ _ _ _ _ _ _ _ c.loop-entry.invariant _ _ c.in-Some.ensures.steps in
    insert-next _ _ _ _ _ _ _ _ c.loop-entry.invariant _ _ c.in-Some.ensures.steps _ _ (put-hidden _ (entry_is c.in-Some.entry) _ _ _ _ _ o _ _ c.in-Some-put_of.ensures _ (rw (c.as_slice-path.ensures.held, c.in-Some-followed_by.ensures) at c.is_visible.ensures) c.if-not-is_visible.true)

pub invariant_of-insert_row : goal.invariant_of-insert_row
invariant_of-insert_row c =
    let o = insert-open _ _ _ _ _ _ _ _ c.loop-entry.invariant _ _ c.in-Some.ensures.steps in
    record { path_short = rw c.as_slice-path.ensures.held c.as_slice-path.ensures.short; value_short = value-short _ (put-value _ (entry_is c.in-Some.entry) _ _ _ _ _ o _ _ c.in-Some-put_of.ensures) }

pub insert_row-requires : goal.insert_row-requires
insert_row-requires c =
    let o = insert-open _ _ _ _ _ _ _ _ c.loop-entry.invariant _ _ c.in-Some.ensures.steps in (
      o.fit,
      o.ahead,
      put-room _ (entry_is c.in-Some.entry) _ _ _ _ _ o _ _ c.in-Some-put_of.ensures _ _ c.none_covers.ensures c.if-not-none_covers.false (rw (c.as_slice-path.ensures.held, c.in-Some-followed_by.ensures) at c.is_visible.ensures) c.if-not-is_visible.false,
      o.untold.rises,
      rw (c.as_slice-path.ensures.held, c.in-Some-followed_by.ensures) (put-absent _ (entry_is c.in-Some.entry) _ _ _ _ _ o _ _ c.in-Some-put_of.ensures),
    )

pub loop-entry-preserved : goal.loop-entry-preserved
loop-entry-preserved c = let o = insert-open _ _ _ _ _ _ _ _ c.loop-entry.invariant _ _ c.in-Some.ensures.steps in
    insert-next _ _ _ _ _ _ _ _ c.loop-entry.invariant _ _ c.in-Some.ensures.steps _ _
    (put-placed _ (entry_is c.in-Some.entry) _ _ _ _ _ o _ _ c.in-Some-put_of.ensures _ _ c.none_covers.ensures c.if-not-none_covers.false (rw (c.as_slice-path.ensures.held, c.in-Some-followed_by.ensures) at c.is_visible.ensures) c.if-not-is_visible.false _ c.insert_row.auto.area
    (rw (c.as_slice-path.ensures.held, c.in-Some-followed_by.ensures) at c.insert_row.ensures))

pub returns : goal.returns
returns c = insert-end _ _ _ _ _ _ _ _ c.loop-entry.invariant c.in_default.ensures.steps.0
