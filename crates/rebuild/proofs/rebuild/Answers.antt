-- `rebuild::rebuild` meets its contract: the part of the work area that was lent comes back as zeros (specs/RebuildSteps).
-- Assumes nothing.
use Rattle.rebuild.specs.RebuildSteps.{node-count, work-room, rebuilt}
use Rattle.std.specs.Prelude.{refl}
use Rattle.image.specs.Prelude.{arith}
use Rattle.rebuild.proofs.rebuild.Goals as goal

pub slice_bounds-rebuild_in-end : goal.slice_bounds-rebuild_in-end
slice_bounds-rebuild_in-end c = let n = node-count _ c.requires.0 in omega arith

pub rebuild_in-requires : goal.rebuild_in-requires
rebuild_in-requires c = (c.requires.0, c.requires.1, work-room c.args.store.now c.args.work.now _ c.requires.0 refl c.requires.2)

pub returns : goal.returns
returns c = rebuilt _ _ c.args.work.now _ _ refl c.rebuild_in.ensures.0 c.rebuild_in.ensures.1
