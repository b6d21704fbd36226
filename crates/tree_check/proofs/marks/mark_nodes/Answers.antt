-- `mark_nodes` meets its contract: from the root, with no mark set. Relies on specs/MarkSteps and on lookup's laws of the root.
use Rattle.std.proofs.Common.{rules}
use Rattle.std.specs.Prelude.{◌≡◌, length, refl}
use Rattle.image.specs.Prelude.{arith}
use Rattle.lookup.specs.Root.{long-enough, root-usable}
use Rattle.node.specs.Whole.{whole_parts}
use Rattle.tree_check.specs.MarkSteps.{store-marked}
use Rattle.tree_check.proofs.marks.mark_nodes.Goals as goal

pub read_root-root-requires : goal.read_root-root-requires
read_root-root-requires c = let l = long-enough c.args.store.now c.requires.1 in omega arith

pub read_levels-levels-requires : goal.read_levels-levels-requires
read_levels-levels-requires c = let l = long-enough c.args.store.now c.requires.1 in omega arith

pub mark_tree-requires : goal.mark_tree-requires
mark_tree-requires c = ((whole_parts _ c.requires.0).few, root-usable _ _ _ c.requires.1 c.read_root-root.ensures.0 c.read_levels-levels.ensures.0)

pub returns : goal.returns
returns c = let h : length c.args.seen.now ≡ 1024 = search rules in
    store-marked c.args.store.now 1024 _ _ _ c.requires.1 (omega (arith, (whole_parts (length c.args.store.now) c.requires.0).few)) refl c.read_root-root.ensures.0 c.read_levels-levels.ensures.0 _ _ c.mark_tree.ensures
