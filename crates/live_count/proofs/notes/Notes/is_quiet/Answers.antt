-- `is_quiet` meets its contract where a note is on the key. Relies on specs/Notes/Paired.
use Rattle.std.specs.Prelude.{refl, ◌-◌}
use Rattle.image.specs.Prelude.{arith, sym, ◌∙◌}
use Rattle.live_count.specs.Notes.Paired.{loud}
use Rattle.live_count.proofs.notes.Notes.is_quiet.Goals as goal

pub returns-then-covers : goal.returns-then-covers
returns-then-covers c =
    let h = c.loop-i.auto.i in
    let t = c.loop-i-test.true in
    (rw c.in_ok-i.was refl, loud c.args.self.now _ c.in_ok-i.was (c.loop-i.i - 1) c.note.result (omega arith) c.note.ensures c.args.key.now (sym c.covers.ensures ∙ c.if-covers.true))
