-- `cut_range` meets its contract: each cut asks what RangeAsks says of its image. Relies on specs/Code.
use Rattle.std.specs.Prelude.{refl}
use Rattle.swing.specs.Code.{then-right, then-inner, range-done}
use Rattle.image.specs.Prelude.{arith}
use Rattle.swing.proofs.cut_range.Goals as goal

pub slice_left-requires : goal.slice_left-requires
slice_left-requires c = c.requires.0.left

pub slice_right-parts-requires : goal.slice_right-parts-requires
slice_right-parts-requires c = (then-right _ _ _ _ _ _ _ c.requires.0 _ c.slice_left.ensures, omega (arith, c.requires.1, c.requires.0.short))

pub slice_left-requires-2 : goal.slice_left-requires-2
slice_left-requires-2 c = then-inner _ _ _ _ _ _ _ c.requires.0 _ c.slice_left.ensures _ _ _ c.slice_right-parts.ensures _ refl

pub returns : goal.returns
returns c = range-done _ _ _ _ _ _ _ c.requires.0 _ c.slice_left.ensures _ _ _ c.slice_right-parts.ensures _ refl _ c.slice_left-2.ensures
