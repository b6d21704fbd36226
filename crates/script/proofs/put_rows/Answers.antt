-- `script::put_rows` meets its contract: before each turn the text so far and the text of the rows ahead are the whole text (specs/Rows). The measure
-- is how many rows are ahead. Assumes nothing.
use Rattle.std.proofs.Common.{rules}
use Rattle.std.specs.Prelude.{refl, []}
use Rattle.image.specs.Prelude.{arith}
use Rattle.script.specs.Rows.{walk-starts, walk_ends, key-short, row_room, part-present, part-shortens, part-goes-on}
use Rattle.script.specs.Answered.{held_on}
use Rattle.script.specs.Writing.{wrote-front}
use Rattle.script.proofs.put_rows.Goals as goal

pub loop-n-init : goal.loop-n-init
loop-n-init c = (omega arith, refl, refl, walk-starts c.args.store.now c.args.path.now c.args.out.now [] c.requires.0)

pub slice_bounds-next-end : goal.slice_bounds-next-end
slice_bounds-next-end c = omega arith

pub put_end-requires : goal.put_end-requires
put_end-requires c = omega (arith, c.loop-n.invariant.3.room, c.requires.0.page)

pub returns-in_default : goal.returns-in_default
returns-in_default c = wrote-front _ _ _ _ _ (walk_ends _ _ _ _ _ _ (held_on _ _ _ c.requires.0 c.loop-n.invariant.2) c.requires.1 c.loop-n.invariant.3 (omega arith) _ _ c.next-found.ensures.meets _ c.in_default.is _ _ c.put_end.ensures)

pub slice_bounds-put_row-end : goal.slice_bounds-put_row-end
slice_bounds-put_row-end c = let l = key-short _ _ _ _ _ _ (held_on _ _ _ c.requires.0 c.loop-n.invariant.2) c.requires.1 c.loop-n.invariant.3 (omega arith) _ _ c.next-found.ensures.meets _ c.in-Ok.is in omega arith

pub put_row-at-requires : goal.put_row-at-requires
put_row-at-requires c = (held_on _ _ _ c.requires.0 c.loop-n.invariant.2, part-present _ _ _ _ _ _ (held_on _ _ _ c.requires.0 c.loop-n.invariant.2) c.requires.1 c.loop-n.invariant.3 (omega arith) _ _ c.next-found.ensures.meets _ c.in-Ok.is, let l = row_room _ _ _ _ _ _ (held_on _ _ _ c.requires.0 c.loop-n.invariant.2) c.requires.1 c.loop-n.invariant.3 (omega arith) _ _ c.next-found.ensures.meets _ c.in-Ok.is in omega (arith, c.requires.0.page))

pub loop-n-smaller : goal.loop-n-smaller
loop-n-smaller c = part-shortens _ _ _ _ _ _ (held_on _ _ _ c.requires.0 c.loop-n.invariant.2) c.requires.1 c.loop-n.invariant.3 (omega arith) _ _ c.next-found.ensures.meets _ c.in-Ok.is

pub loop-n-preserved : goal.loop-n-preserved
loop-n-preserved c = (key-short _ _ _ _ _ _ (held_on _ _ _ c.requires.0 c.loop-n.invariant.2) c.requires.1 c.loop-n.invariant.3 (omega arith) _ _ c.next-found.ensures.meets _ c.in-Ok.is, search rules, search rules, part-goes-on _ _ _ _ _ _ (held_on _ _ _ c.requires.0 c.loop-n.invariant.2) c.requires.1 c.loop-n.invariant.3 (omega arith) _ _ c.next-found.ensures.meets _ c.in-Ok.is _ _ c.put_row-at.ensures)
