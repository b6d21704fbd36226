-- `note` meets its contract. Relies on specs/Notes/Paired.
use Rattle.std.specs.Prelude.{refl}
use Rattle.image.specs.Prelude.{arith}
use Rattle.live_count.specs.Notes.Paired.{paired-at}
use Rattle.live_count.proofs.notes.Notes.note.Goals as goal

pub returns : goal.returns
returns c = let a = c.args.self.now.full in let b = c.args.self.now.alike in paired-at c.args.self.now.clears c.args.self.now.paths c.args.i _ _ _ (omega arith) (omega arith) refl
