-- `add` meets its contract: what the note says of the keys is kept. Relies on specs/Notes/Steps.
use Rattle.live_count.specs.Notes.Notes.{note_covers}
use Rattle.live_count.specs.Notes.Steps.{add-one-note}
use Rattle.live_count.proofs.notes.Notes.add.Goals as goal

pub returns-in-Some : goal.returns-in-Some
returns-in-Some c = add-one-note _ _ _ c.args.note (note_covers c.in-Some.rest) _ _ c.in-Some.ensures c.push.ensures
