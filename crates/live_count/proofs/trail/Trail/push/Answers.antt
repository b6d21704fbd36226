-- `push` meets its contract. Relies on specs/Notes/Apart.
use Rattle.std.specs.Prelude.{refl}
use Rattle.image.specs.Prelude.{arith}
use Rattle.live_count.specs.Notes.Apart.{take-pushed}
use Rattle.live_count.proofs.trail.Trail.push.Goals as goal

pub returns : goal.returns
returns c = let n = c.args.self.now.full in (take-pushed _ _ _ (omega arith), refl)
