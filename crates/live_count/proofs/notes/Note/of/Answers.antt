-- `of` meets its contract, by the kind of the entry. Relies on specs/Notes/Apart.
use Rattle.live_count.specs.Notes.Apart.{unnoted, put-noted, drop-noted, clear-noted}
use Rattle.live_count.proofs.notes.Note.of.Goals.{in-Put, in-Drop, in-Clear}
use Rattle.live_count.proofs.notes.Note.of.Goals as goal

pub returns-in_default : goal.returns-in_default
returns-in_default c = unnoted _ c.in_default.not-Message

pub returns : goal.returns
returns c = elim c.match-message.branch [
  | in-Put w ↦ put-noted _ _ c.in-Message.is _ _ _ w.in-Put.is w.result-is
  | in-Drop w ↦ drop-noted _ _ c.in-Message.is _ _ w.in-Drop.is w.result-is
  | in-Clear w ↦ clear-noted _ _ c.in-Message.is _ _ w.in-Clear.is w.result-is
]
