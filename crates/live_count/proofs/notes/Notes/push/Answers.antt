-- `push` meets its contract: where the last note is on all keys or is like the new one, and where the new one goes behind the others. Relies on
-- specs/Notes/Paired.
use Rattle.std.specs.Prelude.{refl, ◌-◌}
use Rattle.image.specs.Prelude.{arith}
use Rattle.live_count.specs.Notes.Paired.{covered, repeated, noted-behind}
use Rattle.live_count.proofs.notes.Notes.push.Goals as goal
use Rattle.live_count.proofs.notes.Notes.push.Goals.{then-covers_all-2-via-then-covers_all-2, then-covers_all-2-via-else-covers_all-2+then-is_like}

pub returns-then-covers_all-2 : goal.returns-then-covers_all-2
returns-then-covers_all-2 c =
    elim c.then-covers_all-2.branch [
      | then-covers_all-2-via-then-covers_all-2 w ↦ covered c.args.self.now _ c.in-Some.is (c.in-Some.count - 1) c.note-last.result (omega arith) c.note-last.ensures (c.covers_all-then-count-gt0.ensures w.if-covers_all-2.true) c.args.note
      | then-covers_all-2-via-else-covers_all-2+then-is_like w ↦ repeated c.args.self.now _ c.in-Some.is (c.in-Some.count - 1) c.note-last.result (omega arith) c.note-last.ensures c.args.note (w.is_like.ensures w.if-is_like.true)
    ]

pub returns : goal.returns
returns c = noted-behind c.args.self.now _ c.in-Some.is _ c.args.note (omega arith) refl refl refl
