-- `push_leaf` meets its contract: each message that touches the leaf is applied, oldest first. Relies on specs/LeafSteps.
use Rattle.image.specs.Prelude.{arith, sym, ap, ◌∙◌}
use Rattle.std.specs.Prelude.{length}
use Rattle.push.specs.LeafSteps.{all-taken, entry-inside, entry-fits, room_left, entry-taken}
use Rattle.push.proofs.leaf.push_leaf.Goals as goal

pub apply_message-requires : goal.apply_message-requires
apply_message-requires c =
    let f = entry-fits _ _ _ c.in-Some.ensures.steps _ _ _ _ c.loop-entry.invariant.0 in
    let z = ap length c.in-Some-brought.ensures.bytes in
    (entry-inside _ _ _ c.in-Some.ensures.steps _ _ _ _ c.loop-entry.invariant.0, omega arith)

pub loop-entry-preserved-in-Some-brought : goal.loop-entry-preserved-in-Some-brought
loop-entry-preserved-in-Some-brought c = (
  room_left _ _ _ c.in-Some.ensures.steps _ _ _ _ c.loop-entry.invariant.0 _ (c.apply_message.ensures ∙ sym (c.in-Some-brought.ensures.takes _ _)),
  entry-taken _ _ _ c.in-Some.ensures.steps _ _ _ _ c.loop-entry.invariant.0 _ _ (c.apply_message.ensures ∙ sym (c.in-Some-brought.ensures.takes _ _)) c.loop-entry.invariant.1,
)

pub loop-entry-preserved : goal.loop-entry-preserved
loop-entry-preserved c = (
  room_left _ _ _ c.in-Some.ensures.steps _ _ _ _ c.loop-entry.invariant.0 _ (sym (c.in_default.ensures.takes _ _)),
  entry-taken _ _ _ c.in-Some.ensures.steps _ _ _ _ c.loop-entry.invariant.0 _ _ (sym (c.in_default.ensures.takes _ _)) c.loop-entry.invariant.1,
)

pub returns : goal.returns
returns c = all-taken _ _ _ _ _ _ c.in-None.ensures.steps.0 c.loop-entry.invariant.1
