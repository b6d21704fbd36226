-- `edit::goes_at_root` meets its contract: a yes is append's word that the message fits, with bytes to spare or without. Relies on specs/Room.
use Rattle.laws.specs.ButLive.{sound-but-live}
use Rattle.edit.specs.Room.{room-less}
use Rattle.image.specs.Prelude.{false≢true, sym, ◌∙◌, arith}
use Rattle.edit.proofs.goes_at_root.Goals as goal

pub fits_at_root-requires : goal.fits_at_root-requires
fits_at_root-requires c = (sound-but-live _ c.requires.0, omega arith)

pub returns-then-waiting-eq0 : goal.returns-then-waiting-eq0
returns-then-waiting-eq0 c = λ e. room-less _ _ _ (sym c.fits_at_root.ensures ∙ e)

pub returns-then-most-waiting : goal.returns-then-most-waiting
returns-then-most-waiting c = λ e. absurd (false≢true e)

pub fits_at_root-requires-2 : goal.fits_at_root-requires-2
fits_at_root-requires-2 c = (sound-but-live _ c.requires.0, omega arith)

pub returns : goal.returns
returns c = λ e. sym c.fits_at_root-2.ensures ∙ e
