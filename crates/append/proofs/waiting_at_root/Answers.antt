-- `append::waiting_at_root` meets its contract: the entries that it walks are those of the root, which Waiting takes from lookup.
use Rattle.append.specs.Waiting.{no-levels, root-entries, root-counted}
use Rattle.append.specs.WriteSteps.{long}
use Rattle.image.specs.Prelude.{arith}
use Rattle.append.proofs.waiting_at_root.Goals as goal

pub read_levels-levels-requires : goal.read_levels-levels-requires
read_levels-levels-requires c = let l = long c.args.store.now c.requires in omega arith

pub returns-then-levels-lt2 : goal.returns-then-levels-lt2
returns-then-levels-lt2 c = no-levels _ c.requires _ c.read_levels-levels.ensures.0 c.if-levels-lt2.true

pub read_root-root-requires : goal.read_root-root-requires
read_root-root-requires c = let l = long c.args.store.now c.requires in omega arith

pub of_node-requires : goal.of_node-requires
of_node-requires c = (root-entries _ c.requires _ _ c.read_levels-levels.ensures.0 c.if-levels-lt2.false c.read_root-root.ensures.0).0

pub returns : goal.returns
returns c = root-counted _ c.requires _ _ _ _ c.read_levels-levels.ensures.0 c.if-levels-lt2.false c.read_root-root.ensures.0 c.of_node.ensures.lists c.count_messages.ensures
