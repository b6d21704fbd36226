-- `count_paths` meets its contract: the count from the root, where nothing is lifted and no node stands above. Relies on specs/RootSteps.
use Rattle.image.specs.Prelude.{arith}
use Rattle.live_count.specs.RootSteps.{one-node, root-ready, root-sound, root-counts, root_told}
use Rattle.live_count.proofs.count_paths.Goals as goal

pub read_root-requires : goal.read_root-requires
read_root-requires c = let l = one-node c.args.store.now c.requires in omega arith

pub read_levels-levels-requires : goal.read_levels-levels-requires
read_levels-levels-requires c = let l = one-node c.args.store.now c.requires in omega arith

pub count_node-requires : goal.count_node-requires
count_node-requires c = (root-ready c.args.store.now c.requires _ _ c.read_root.ensures.0 c.read_levels-levels.ensures.0 _ c.new-above.ensures.trail, root-sound c.args.store.now c.requires _ _ c.read_root.ensures.0 c.read_levels-levels.ensures.0 c.new-above.result c.new-above.ensures, root_told c.new-above.result _ _ c.new-above.ensures)

pub returns : goal.returns
returns c = root-counts c.args.store.now c.requires _ _ c.read_root.ensures.0 c.read_levels-levels.ensures.0 c.new-above.result _ c.new-above.ensures c.count_node.ensures.0
