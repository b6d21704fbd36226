-- `read_front` meets its contract. Relies on specs/Spans.
use Rattle.node.specs.Spans.{none-in-front, no-child-in-front, child-in-front}
use Rattle.node.proofs.branches.read_front.Goals as goal

pub returns-in_default : goal.returns-in_default
returns-in_default c = none-in-front _ c.in_default.ensures.steps.0

pub returns-in_default-entry : goal.returns-in_default-entry
returns-in_default-entry c = no-child-in-front _ _ _ c.in-Some.ensures.steps c.in_default-entry.not-Child

pub returns : goal.returns
returns c = child-in-front _ _ _ _ _ c.in-Some.ensures.steps c.in-Child.is
