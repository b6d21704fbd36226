-- `covers` meets its contract. Relies on specs/Notes/Apart.
use Rattle.image.specs.Prelude.{arith}
use Rattle.live_count.specs.Notes.Apart.{short-covers, clear-covers, name-covers}
use Rattle.live_count.proofs.notes.Note.covers.Goals as goal

pub returns-then-not-self : goal.returns-then-not-self
returns-then-not-self c = name-covers c.args.self.now c.args.key.now _ c.if-not-self.true c.equal.ensures

pub returns-then-key-size : goal.returns-then-key-size
returns-then-key-size c = short-covers c.args.self.now c.args.key.now c.if-not-self.false (omega arith)

pub returns : goal.returns
returns c = clear-covers c.args.self.now c.args.key.now _ c.if-not-self.false (omega arith) c.equal-2.ensures
