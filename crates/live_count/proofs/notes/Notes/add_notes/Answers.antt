-- `add_notes` meets its contract: the notes one by one. Relies on specs/Notes/Paired.
use Rattle.live_count.specs.Notes.Paired.{notes-on}
use Rattle.live_count.proofs.notes.Notes.add_notes.Goals as goal

pub loop-i-preserved : goal.loop-i-preserved
loop-i-preserved c = notes-on c.args.others.now _ c.in-Some.is c.loop-i.i c.note.result c.loop-i-test.true c.note.ensures _ _ _ _ _ _ c.loop-i.invariant c.add.ensures
