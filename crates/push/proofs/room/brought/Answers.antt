-- `brought` meets its contract, by the kind of the entry. Relies on specs/ReadSteps.
use Rattle.std.proofs.Common.{rules}
use Rattle.push.specs.ReadSteps.{silent-other, silent-untouched, arrives}
use Rattle.push.proofs.room.brought.Goals as goal

pub returns-in_default : goal.returns-in_default
returns-in_default c = silent-other _ _ _ c.in_default.not-Message

pub returns-then-not-touches_child : goal.returns-then-not-touches_child
returns-then-not-touches_child c = silent-untouched _ _ c.in-Message.is _ _ (search rules)

pub returns : goal.returns
returns c = arrives _ _ c.in-Message.is _ _ (search rules) _ _ c.common_length.ensures.0 c.lowered.ensures
