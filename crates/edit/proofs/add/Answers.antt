-- `add` meets its contract. Relies on specs/Edited.
use Rattle.image.specs.Prelude.{arith}
use Rattle.laws.specs.ButLive.{sound-but-live}
use Rattle.edit.specs.Room.{fits-root, fits-above}
use Rattle.edit.specs.Edited.{written-here, written-above}
use Rattle.edit.proofs.add.Goals as goal

pub append-requires : goal.append-requires
append-requires c = (c.requires.0, sound-but-live _ c.requires.1, fits-root _ _ _ c.requires.4 c.in-None.is)

pub raise-requires : goal.raise-requires
raise-requires c = let f = fits-above _ _ _ _ c.requires.4 c.in-Some.is in (c.requires.0, sound-but-live _ c.requires.1, f.high, omega arith)

pub returns-in-None : goal.returns-in-None
returns-in-None c = written-here _ _ _ c.requires.1 c.requires.2 (fits-root _ _ _ c.requires.4 c.in-None.is) c.append.ensures

pub returns-in-Some : goal.returns-in-Some
returns-in-Some c = written-above _ _ _ c.requires.1 c.requires.2 c.requires.3 _ (fits-above _ _ _ _ c.requires.4 c.in-Some.is) c.raise.ensures
