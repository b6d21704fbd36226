-- The loop over a node's entries: none of those passed takes a row away (specs/ReplacingSteps).
use Rattle.dump.specs.ReplacingSteps.{keeps-end, other-keeps, put-keeps, taken}
use Rattle.dump.proofs.replacing.only_puts.Goals as goal

pub returns-in_default-message : goal.returns-in_default-message
returns-in_default-message c = taken _ _ _ _ c.in-Some.ensures.steps c.loop-entry.invariant _ c.in-Message.is c.in_default-message.not-Put

pub loop-entry-preserved-in_default : goal.loop-entry-preserved-in_default
loop-entry-preserved-in_default c = other-keeps _ _ _ _ c.in-Some.ensures.steps c.loop-entry.invariant c.in_default.not-Message

pub loop-entry-preserved : goal.loop-entry-preserved
loop-entry-preserved c = put-keeps _ _ _ _ c.in-Some.ensures.steps c.loop-entry.invariant _ c.in-Message.is _ _ c.in-Put.is

pub returns : goal.returns
returns c = keeps-end _ _ c.in-None.ensures.steps.0 c.loop-entry.invariant
