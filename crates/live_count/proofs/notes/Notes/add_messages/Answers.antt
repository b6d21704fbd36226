-- `add_messages` meets its contract: the entries one by one. Relies on specs/Notes/Steps.
use Rattle.live_count.specs.Notes.Steps.{noting-end, noting-past, noting-on}
use Rattle.live_count.proofs.notes.Notes.add_messages.Goals as goal

pub loop-entry-preserved-in-Some-of : goal.loop-entry-preserved-in-Some-of
loop-entry-preserved-in-Some-of c = noting-on _ _ _ _ _ _ _ c.loop-entry.invariant _ _ c.in-Some.ensures.steps c.in-Some-of.note _ c.in-Some-of.ensures c.add.ensures

pub loop-entry-preserved : goal.loop-entry-preserved
loop-entry-preserved c = noting-past _ _ _ _ _ _ _ c.loop-entry.invariant _ _ c.in-Some.ensures.steps c.in_default.ensures

pub returns : goal.returns
returns c = noting-end _ _ _ _ _ _ _ c.loop-entry.invariant c.in-None.ensures.steps.0
