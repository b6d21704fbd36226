-- `cut_both` meets its contract: the lower range is cut in what the higher one leaves. Relies on specs/Code.
use Rattle.std.specs.Prelude.{refl}
use Rattle.swing.specs.Code.{high-asked, low-asked, both-done}
use Rattle.swing.proofs.cut_both.Goals as goal

pub cut_range-right-requires : goal.cut_range-right-requires
cut_range-right-requires c = (high-asked _ _ _ _ _ c.requires.0 _ c.read_root-root.ensures.0, c.requires.2)

pub cut_range-left-requires : goal.cut_range-left-requires
cut_range-left-requires c = (low-asked _ _ _ _ _ c.requires.0 _ c.read_root-root.ensures.0 _ _ _ c.cut_range-right.ensures _ refl, c.requires.1)

pub returns : goal.returns
returns c = both-done _ _ _ _ _ c.requires.0 _ c.read_root-root.ensures.0 _ _ _ c.cut_range-right.ensures _ refl _ _ _ c.cut_range-left.ensures
