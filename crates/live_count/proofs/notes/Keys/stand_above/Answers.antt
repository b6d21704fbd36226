-- `stand_above` meets its contract. Relies on specs/Notes/Apart.
use Rattle.image.specs.Prelude.{sym, ◌∙◌, true≢false, not-true}
use Rattle.live_count.specs.Notes.Apart.{misses-by}
use Rattle.live_count.proofs.notes.Keys.stand_above.Goals.{then-note, else-note}
use Rattle.live_count.proofs.notes.Keys.stand_above.Goals as goal

pub returns-after-note : goal.returns-after-note
returns-after-note c = misses-by _ _ _ _ (λ t. sym c.precedes.ensures ∙ c.if-precedes.true)
    (λ t. elim c.if-note.branch [
      | then-note w ↦ λ e. sym w.begins_with.ensures ∙ sym w.result-is ∙ not-true _ t
      | else-note w ↦ λ e. absurd (true≢false (sym e ∙ w.if-note.false))
    ])

pub returns-else-precedes : goal.returns-else-precedes
returns-else-precedes c = misses-by _ _ _ _ (λ t. absurd (true≢false (sym t ∙ c.if-precedes.false))) (λ t. absurd (true≢false (sym t ∙ c.if-precedes.false)))
