-- `enter` meets its contract: what the trail and the notes each promise. Relies on specs/NotedSteps.
use Rattle.std.specs.Prelude.{refl, length}
use Rattle.image.specs.Prelude.{ap, sym, ◌∙◌}
use Rattle.live_count.specs.Steps.{same-trail, longer-trail}
use Rattle.live_count.specs.NotedSteps.{entered}
use Rattle.live_count.proofs.position.Position.enter.Goals as goal

pub returns-then-has_messages : goal.returns-then-has_messages
returns-then-has_messages c = entered _ _ _ _ c.args.self.now _ refl (longer-trail _ _ c.args.self.now.trail _ _ c.push.ensures.0 c.push.ensures.1 refl (ap length c.as_slice-lift.ensures.held)) refl c.add_messages.ensures

pub returns-else-has_messages : goal.returns-else-has_messages
returns-else-has_messages c = entered _ _ _ _ c.args.self.now _ refl (same-trail _ _ c.args.self.now.trail (sym c.has_messages.ensures ∙ c.if-has_messages.false)) refl c.add_messages.ensures
