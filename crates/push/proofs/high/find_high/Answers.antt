-- `find_high` meets its contract: the search from the root. Relies on specs/High/Steps and on lookup's Root.
use Rattle.image.specs.Prelude.{arith}
use Rattle.lookup.specs.Root.{long-enough, root-usable}
use Rattle.push.specs.High.Steps.{root-seen}
use Rattle.push.proofs.high.find_high.Goals as goal

pub read_root-requires : goal.read_root-requires
read_root-requires c = let l = long-enough _ c.requires in omega arith

pub read_levels-requires : goal.read_levels-requires
read_levels-requires c = let l = long-enough _ c.requires in omega arith

pub search_node-requires : goal.search_node-requires
search_node-requires c = root-usable _ _ _ c.requires c.read_root.ensures.0 c.read_levels.ensures.0

pub returns : goal.returns
returns c = root-seen _ _ _ _ _ c.requires c.read_root.ensures.0 c.read_levels.ensures.0 c.search_node.ensures
