-- `is_like` meets its contract: two notes of one kind on the same bytes. Relies on specs/Notes/Apart.
use Rattle.image.specs.Prelude.{sym, ◌∙◌}
use Rattle.live_count.specs.Notes.Apart.{like-told, beq-true}
use Rattle.live_count.proofs.notes.Note.is_like.Goals as goal

pub returns-then-self-other : goal.returns-then-self-other
returns-then-self-other c = λ t. like-told c.args.self.now c.args.other (beq-true _ _ c.if-self-other.true) (sym c.equal.ensures ∙ t)
