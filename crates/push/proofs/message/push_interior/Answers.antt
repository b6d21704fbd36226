-- `push_interior` meets its contract: what is brought stands behind the child's own entries. Relies on specs/WriteSteps.
use Rattle.std.specs.Prelude.{length, ◌++◌}
use Rattle.image.specs.Prelude.{arith, ap, ◌∙◌}
use Rattle.node.specs.Lent.{left_of}
use Rattle.push.specs.Laws.Arriving.{brought_all}
use Rattle.push.specs.Laws.Only.{room-inside, room_fits, body-fits}
use Rattle.push.specs.WriteSteps.{page-fits, page-on, page-skips, page-ends, brought-cons, brought-none, body-short, interior-written}
use Rattle.push.proofs.message.push_interior.Goals as goal

pub overflow_mul-child : goal.overflow_mul-child
overflow_mul-child c = let i = room-inside _ _ _ _ _ c.requires in omega arith

pub read_level-level-requires : goal.read_level-level-requires
read_level-level-requires c = let i = room-inside _ _ _ _ _ c.requires in omega arith

pub of_node-requires : goal.of_node-requires
of_node-requires c = room-inside _ _ _ _ _ c.requires

pub copy-requires : goal.copy-requires
copy-requires c =
    let f = body-short _ _ _ _ _ _ c.requires c.of_node.ensures.bytes in let z = ap length c.new-page.ensures in omega arith

pub loop-entry-init : goal.loop-entry-init
loop-entry-init c =
    rw c.into_iter-entry-iterator.ensures.into_iter_gives
    (ap (λ l. l ++ brought_all (left_of c.args.entries) c.args.child.low.now c.args.child.high.now)
    (c.copy.ensures ∙ ap (λ l. l ++ c.of_node.result.rest.now) c.new-page.ensures ∙ c.of_node.ensures.bytes))

pub push-requires : goal.push-requires
push-requires c = (
  page-fits _ _ _ _ _ (brought-cons c.args.child.low.now c.args.child.high.now _ _ _ c.in-Some.ensures.steps) c.loop-entry.invariant _ c.in-Some-brought.ensures.bytes
      (body-fits _ _ _ _ _ c.requires),
  tt,
)

pub loop-entry-preserved-in-Some-brought : goal.loop-entry-preserved-in-Some-brought
loop-entry-preserved-in-Some-brought c =
    page-on _ _ _ _ _ (brought-cons c.args.child.low.now c.args.child.high.now _ _ _ c.in-Some.ensures.steps) c.loop-entry.invariant _ _ c.in-Some-brought.ensures.bytes c.push.ensures

pub loop-entry-preserved : goal.loop-entry-preserved
loop-entry-preserved c = page-skips _ _ _ _ _ (brought-cons c.args.child.low.now c.args.child.high.now _ _ _ c.in-Some.ensures.steps) c.loop-entry.invariant c.in_default.ensures.bytes

pub write-requires : goal.write-requires
write-requires c = (room-inside _ _ _ _ _ c.requires, omega arith, c.read_level-level.ensures.1)

pub returns : goal.returns
returns c =
    interior-written _ _ _ _ _ _ _ _ c.read_level-level.ensures.0
    (page-ends _ _ _ (brought-none _ _ _ c.in-None.ensures.steps.0) c.loop-entry.invariant) c.write.ensures
