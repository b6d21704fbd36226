-- `has_messages` meets its contract: the entries one by one, up to the first message. Relies on specs/Notes/Steps.
use Rattle.live_count.specs.Notes.Steps.{message-none, message-here, message-later}
use Rattle.live_count.proofs.visibility.has_messages.Goals as goal

pub returns-in-Message : goal.returns-in-Message
returns-in-Message c = message-here _ _ c.loop-entry.invariant _ _ c.in-Some.ensures.steps _ c.in-Message.is

pub loop-entry-preserved : goal.loop-entry-preserved
loop-entry-preserved c = message-later _ _ c.loop-entry.invariant _ _ c.in-Some.ensures.steps c.in_default.not-Message

pub returns : goal.returns
returns c = message-none _ _ c.loop-entry.invariant c.in-None.ensures.steps.0
