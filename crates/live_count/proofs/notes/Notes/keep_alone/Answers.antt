-- `keep_alone` meets its contract. Relies on specs/Notes/Paired.
use Rattle.std.specs.Prelude.{refl}
use Rattle.live_count.specs.Notes.Paired.{kept-alone}
use Rattle.live_count.proofs.notes.Notes.keep_alone.Goals as goal

pub returns : goal.returns
returns c = kept-alone c.args.self.now _ c.args.note c.requires.1 refl refl refl c.requires.0
