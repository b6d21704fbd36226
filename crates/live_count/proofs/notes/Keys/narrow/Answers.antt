-- `narrow` meets its contract, exit by exit. Relies on specs/Notes/Apart.
use Rattle.std.proofs.Common.{rules}
use Rattle.std.specs.Prelude.{◌-◌, length, take, drop}
use Rattle.image.specs.Prelude.{arith, sym, ap, ◌∙◌, true≢false}
use Rattle.lookup.specs.Look.{part-rest}
use Rattle.image.specs.Bytes.{before}
use Rattle.live_count.specs.Notes.Apart.{all-cleared, apart, high-off, low-off, told}
use Rattle.live_count.proofs.notes.Keys.narrow.Goals.{else-note-via-then-note+else-is_empty, else-note-via-else-note}
use Rattle.live_count.proofs.notes.Keys.narrow.Goals as goal

pub returns-then-is_empty : goal.returns-then-is_empty
returns-then-is_empty c = all-cleared c.args.note c.args.self.now _ c.common_length-shared.ensures.0 c.if-shared-self.true (take (length c.args.note.path.now - c.common_length-shared.result) (drop c.common_length-shared.result c.args.note.path.now)) (part-rest c.common_length-shared.result c.args.note.path.now) c.if-note.true (search rules) (omega arith)

pub returns-then-shared-self : goal.returns-then-shared-self
returns-then-shared-self c = apart c.args.note c.args.self.now _ c.common_length-shared.ensures.0 c.if-shared-self.true
    (λ e. elim c.else-note.branch [
      | else-note-via-then-note+else-is_empty w ↦ search rules
      | else-note-via-else-note w ↦ absurd (true≢false (sym e ∙ w.if-note.false))
    ])

pub returns-then-not-precedes : goal.returns-then-not-precedes
returns-then-not-precedes c = high-off c.args.note c.args.self.now _ c.common_length-shared.ensures.0 (omega arith) (omega arith)
    (ap (λ x. before x c.args.self.now.high.now) (sym (part-rest c.common_length-shared.result c.args.note.path.now)) ∙ sym c.precedes.ensures ∙ c.if-not-precedes.true)

pub returns-then-stand_above : goal.returns-then-stand_above
returns-then-stand_above c = low-off c.args.note c.args.self.now _ c.common_length-shared.ensures.0 (omega arith) (omega arith)
    _ (rw (part-rest c.common_length-shared.result c.args.note.path.now) at c.stand_above.ensures) c.if-stand_above.true

pub returns : goal.returns
returns c = told c.args.note c.args.self.now _ c.common_length-shared.ensures.0 (omega arith) (omega arith) _ (part-rest c.common_length-shared.result c.args.note.path.now)
