-- `take_out` meets its contract: the tail, then the gap. Relies on specs/Code.
use Rattle.swing.specs.Code.{tail-asked, front-short, out-done}
use Rattle.image.specs.Prelude.{arith}
use Rattle.swing.proofs.take_out.Goals as goal

pub slice_right-requires : goal.slice_right-requires
slice_right-requires c = (tail-asked _ _ _ _ _ c.requires, omega (arith, front-short _ _ _ _ _ c.requires))

pub returns : goal.returns
returns c = out-done _ _ _ _ _ c.requires _ _ _ c.slice_right.ensures _ c.write_gap.ensures
