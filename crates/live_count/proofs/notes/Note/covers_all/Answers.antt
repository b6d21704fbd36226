-- `covers_all` meets its contract: the beginning with no bytes begins every key. Relies on specs/Notes/Apart.
use Rattle.std.specs.Prelude.{◌≡◌, true}
use Rattle.image.specs.Prelude.{sym, ◌∙◌, rules}
use Rattle.live_count.specs.Notes.Apart.{all-covered}
use Rattle.live_count.proofs.notes.Note.covers_all.Goals as goal

pub returns-then-self : goal.returns-then-self
returns-then-self c = λ (e : c.is_empty.result ≡ true) k. let q = sym c.is_empty.ensures ∙ e in all-covered c.args.self.now c.if-self.true (search rules) k
