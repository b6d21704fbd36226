-- `check_leaf` tells whether a node is a sound leaf, and how many pairs it has. Relies on LeafSteps and on node_check.
use Rattle.tree_check.specs.LeafSteps.{leaf-unlaid, leaf-unsound, leaf-all-sound}
use Rattle.tree_check.specs.Layout.{laid-entries}
use Rattle.tree_check.specs.Node.Counted.{counts-no, counts-yes}
use Rattle.path.specs.Fed.{shape_is}
use Rattle.std.specs.Prelude.{refl}
use Rattle.image.specs.Prelude.{sym, ◌∙◌}
use Rattle.tree_check.proofs.check_leaf.Goals as goal

pub returns-then-not-laid_out : goal.returns-then-not-laid_out
returns-then-not-laid_out c = leaf-unlaid c.args.store.now c.args.num (shape_is c.args.sh) c.args.lo.now c.args.hi.now c.requires _ c.laid_out.ensures c.if-not-laid_out.true

pub of_node-entries-requires : goal.of_node-entries-requires
of_node-entries-requires c = (laid-entries _ _ 1 1 c.requires (sym c.laid_out.ensures ∙ c.if-not-laid_out.false)).0

pub returns-in_err-pairs : goal.returns-in_err-pairs
returns-in_err-pairs c = rw c.from_residual.ensures (leaf-unsound c.args.store.now c.args.num (shape_is c.args.sh) c.args.lo.now c.args.hi.now c.requires _ c.laid_out.ensures c.if-not-laid_out.false _ c.of_node-entries.ensures.bytes _ refl (counts-no _ _ _ c.check_leaf.ensures c.in_err-pairs.was))

pub returns : goal.returns
returns c = leaf-all-sound c.args.store.now c.args.num (shape_is c.args.sh) c.args.lo.now c.args.hi.now c.requires _ c.laid_out.ensures c.if-not-laid_out.false _ c.of_node-entries.ensures.bytes _ refl (counts-yes _ _ _ c.check_leaf.ensures _ c.in_ok-pairs.was) _ (c.check_leaf.ensures.number _ c.in_ok-pairs.was)
