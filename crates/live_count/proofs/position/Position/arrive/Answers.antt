-- `arrive` meets its contract: too far, or what the node above hands down narrowed to the node, or the trail's own. Relies on specs/NotedSteps.
use Rattle.std.specs.Prelude.{refl}
use Rattle.image.specs.Prelude.{arith, sym, ◌∙◌}
use Rattle.lookup.specs.Look.{part-rest}
use Rattle.live_count.specs.Steps.{key-lifts}
use Rattle.live_count.specs.NotedSteps.{handed, arrived, arrived-far}
use Rattle.live_count.proofs.position.Position.arrive.Goals as goal

pub returns-in_err-self : goal.returns-in_err-self
returns-in_err-self c = rw c.from_residual.ensures (arrived-far c.args.above.now _ _ _ c.common_length-lifted.ensures.0 _ refl c.in_err-self.ensures)

pub returns : goal.returns
returns c = let n = c.note_trail.ensures in
    arrived c.args.above.now _ _ _ c.common_length-lifted.ensures.0 _ refl _ (omega arith) (omega arith)
    (n.prefix ∙ c.in_ok-self.ensures) n.trail (rw (part-rest c.common_length-lifted.result c.args.low.now, part-rest c.common_length-lifted.result c.args.high.now) at n.tells)

pub returns-then-is_some : goal.returns-then-is_some
returns-then-is_some c =
    arrived c.args.above.now _ _ _ c.common_length-lifted.ensures.0 _ refl _ (omega arith) (omega arith) c.in_ok-self.ensures refl
    (handed c.args.above.now _ _ _ c.common_length-lifted.ensures.0 _ refl _ _ _ c.in_ok-self.ensures c.clear.ensures c.requires
    (rw (part-rest c.common_length-lifted.result c.args.low.now, part-rest c.common_length-lifted.result c.args.high.now) at c.add_notes.ensures)
    (sym c.is_some.ensures ∙ c.if-is_some.true))

pub invariant_of-self : goal.invariant_of-self
invariant_of-self c = record { lifted = key-lifts _ c.args.above.now.trail _ _ c.in_ok-self.ensures c.args.above.now.lifted }

pub invariant_of-self-else-is_some : goal.invariant_of-self-else-is_some
invariant_of-self-else-is_some c = record { lifted = key-lifts _ c.args.above.now.trail _ _ c.in_ok-self.ensures c.args.above.now.lifted }
