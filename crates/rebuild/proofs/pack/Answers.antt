-- `rebuild::pack` meets its contract: the numbers from 1 up, below a quarter of the nodes, are what build asks (specs/RebuildSteps).
-- Assumes nothing.
use Rattle.node.specs.Whole.{whole_parts}
use Rattle.rebuild.specs.RebuildSteps.{pack-asks, pack-done}
use Rattle.image.specs.Prelude.{arith}
use Rattle.rebuild.proofs.pack.Goals as goal

pub count_numbers-requires : goal.count_numbers-requires
count_numbers-requires c = let p = c.requires in let w = whole_parts _ p.whole in let n = p.numbers in let f = w.few in omega arith

pub build-requires : goal.build-requires
build-requires c = pack-asks _ _ _ _ _ c.requires c.count_numbers.ensures

pub returns : goal.returns
returns c = pack-done _ _ _ _ _ c.requires c.count_numbers.ensures _ c.build.ensures
