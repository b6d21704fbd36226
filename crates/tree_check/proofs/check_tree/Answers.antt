-- `check_tree`: node 0, then the walk from the root with no mark set.
-- Relies on RootSteps.
use Rattle.std.proofs.Common.{rules}
use Rattle.std.specs.Prelude.{length, ◌≡◌, refl}
use Rattle.image.specs.Prelude.{arith}
use Rattle.tree_check.specs.RootSteps.{bad-head, from-root}
use Rattle.tree_check.proofs.check_tree.Goals as goal

pub returns-then-not-header_good : goal.returns-then-not-header_good
returns-then-not-header_good c = bad-head _ _ c.header_good.ensures c.if-not-header_good.true _

pub returns : goal.returns
returns c = let h : length c.args.seen.now ≡ 1024 = search rules in
    from-root c.args.store.now c.requires.0 _ c.header_good.ensures c.if-not-header_good.false 1024 (omega (arith, c.requires.1)) _ refl _ _ c.read_root-root.ensures.0 c.read_levels-levels.ensures.0 _ c.start.ensures _ _ c.check_node.ensures
