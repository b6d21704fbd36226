-- `maintain::rebuild_unless` meets its contract: either the work area alone is cleared, or the store is rebuilt (specs/Steps).
-- Assumes nothing.
use Rattle.std.specs.Prelude.{refl}
use Rattle.image.specs.Prelude.{arith}
use Rattle.rebuild.specs.RebuildSteps.{node-count}
use Rattle.maintain.specs.Steps.{stayed, rebuilt}
use Rattle.maintain.proofs.rebuild_unless.Goals as goal

pub clear_area-requires : goal.clear_area-requires
clear_area-requires c = let n = node-count _ c.requires.whole in let l = c.requires.long in omega (arith, n.0)

pub returns-then-done : goal.returns-then-done
returns-then-done c = stayed _ _ _ _ _ c.if-done.true refl c.clear_area.ensures

pub returns : goal.returns
returns c = rebuilt _ _ _ _ _ c.if-done.false c.rebuild.ensures
