-- `rebuild::rebuild_in` meets its contract: the rows dumped are a table that can be packed, and the area is cleared whole (specs/RebuildSteps).
-- Assumes nothing.
use Rattle.std.proofs.Common.{rules}
use Rattle.image.specs.Image.{nodes_of}
use Rattle.rebuild.specs.RebuildSteps.{node-count, dumped-packable, numbers-room, repacked-table, all-zeros}
use Rattle.std.specs.Prelude.{◌*◌, refl, length}
use Rattle.image.specs.Prelude.{sym, arith, length-take-le}
use Rattle.rebuild.proofs.rebuild_in.Goals as goal

pub dump-m-requires : goal.dump-m-requires
dump-m-requires c = let n = node-count _ c.requires.0 in (c.requires.1, omega arith)

pub overflow_sub-count : goal.overflow_sub-count
overflow_sub-count c = let n = node-count _ c.requires.0 in omega arith

pub slice_bounds-numbers-end : goal.slice_bounds-numbers-end
slice_bounds-numbers-end c = let n = node-count _ c.requires.0 in omega arith

pub slice_bounds-pack-end : goal.slice_bounds-pack-end
slice_bounds-pack-end c = let n = node-count _ c.requires.0 in sym (length-take-le _ _ (omega arith))

pub pack-requires : goal.pack-requires
pack-requires c = dumped-packable _ _ _ _ _ c.requires.0 c.requires.1 c.dump-m.ensures (numbers-room c.args.store.now _ c.requires.0 refl)

pub returns : goal.returns
returns c = (repacked-table _ _ _ _ _ c.dump-m.ensures c.pack.ensures, all-zeros c.pack.new.area _ (length c.pack.new.area) (128 * nodes_of (length c.args.store.now)) c.clear_area.ensures refl (search rules))
