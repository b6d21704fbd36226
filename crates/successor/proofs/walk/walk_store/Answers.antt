-- `walk_store` meets its contract: the root is ready. Relies on specs/Present.
use Rattle.image.specs.Prelude.{arith}
use Rattle.lookup.specs.Root.{long-enough, root_is}
use Rattle.successor.specs.Present.{root-ready}
use Rattle.successor.proofs.walk.walk_store.Goals as goal

pub read_root-root-requires : goal.read_root-root-requires
read_root-root-requires g c = let l = long-enough c.args.store.now c.requires in omega arith

pub read_levels-levels-requires : goal.read_levels-levels-requires
read_levels-levels-requires g c = let l = long-enough c.args.store.now c.requires in omega arith

pub walk_node-requires : goal.walk_node-requires
walk_node-requires g c = root-ready c.args.store.now _ _ c.requires c.read_root-root.ensures.0 c.read_levels-levels.ensures.0

pub returns : goal.returns
returns g c = rw (root_is c.args.store.now _ _ c.requires c.read_root-root.ensures.0 c.read_levels-levels.ensures.0) at c.walk_node.ensures
