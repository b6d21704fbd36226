-- `touches_child` meets its contract: a clear touches a child if it and what the child lifts begin alike. Relies on specs/ReadSteps.
use Rattle.std.specs.Prelude.{refl}
use Rattle.push.specs.ReadSteps.{clear_first, clear_second}
use Rattle.push.proofs.room.touches_child.Goals as goal

pub returns-then-begins_with : goal.returns-then-begins_with
returns-then-begins_with c = clear_first _ _ _ _ c.in-Clear.is _ _ c.common_length-k.ensures.0 refl _ c.begins_with.ensures c.if-begins_with.true

pub returns-else-begins_with : goal.returns-else-begins_with
returns-else-begins_with c = clear_second _ _ _ _ c.in-Clear.is _ _ c.common_length-k.ensures.0 refl _ c.begins_with.ensures c.if-begins_with.false _ c.begins_with-else-begins_with.ensures
