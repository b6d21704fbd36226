-- `check_leaf` meets its contract: the walk that asks only of the first and the last key whether the leaf owns it, and the count as it goes.
-- Relies on specs/Node/Ends and specs/Node/Counted.
use Rattle.std.proofs.Common.{rules}
use Rattle.image.specs.Prelude.{arith}
use Rattle.tree_check.specs.Node.Ends.{walk_is, leaf-unread, leaf-other, leaf-over, leaf-stop, leaf-on}
use Rattle.tree_check.specs.Node.Counted.{counts-bad, counts_all, count-done, count-on}
use Rattle.tree_check.proofs.node_check.check_leaf.Goals as goal

pub loop-rest-init : goal.loop-rest-init
loop-rest-init c = (omega arith, omega arith, walk_is _ _ _ _)

pub returns-in_err-entry : goal.returns-in_err-entry
returns-in_err-entry c = rw c.from_residual.ensures (counts-bad _ _ (leaf-unread _ _ _ _ _ _ (search rules) c.in_err-entry.ensures c.loop-rest.invariant.2))

pub returns-in_default : goal.returns-in_default
returns-in_default c = counts-bad _ _ (leaf-other _ _ _ _ _ _ _ c.in_ok-entry.ensures _ c.loop-rest.invariant.2 c.in_default.not-Pair)

pub returns-then-not-row_good : goal.returns-then-not-row_good
returns-then-not-row_good c = counts-bad _ _ (leaf-stop _ _ _ _ _ _ _ c.in_ok-entry.ensures _ c.loop-rest.invariant.2 _ _ c.in-Pair.is c.row_good.result c.row_good.ensures c.if-not-row_good.true)

pub overflow_add-count : goal.overflow_add-count
overflow_add-count c = let l = c.in_ok-entry.ensures.shorter in omega arith

pub loop-rest-smaller : goal.loop-rest-smaller
loop-rest-smaller c = let l = c.in_ok-entry.ensures.shorter in omega arith

pub loop-rest-preserved : goal.loop-rest-preserved
loop-rest-preserved c = let l = c.in_ok-entry.ensures.shorter in (omega arith, count-on _ _ _ _ _ c.in_ok-entry.ensures.lists c.loop-rest.invariant.1, leaf-on _ _ _ _ _ _ _ c.in_ok-entry.ensures _ c.loop-rest.invariant.2 _ _ c.in-Pair.is c.row_good.result c.row_good.ensures c.if-not-row_good.false)

pub returns-then-not-ends_below : goal.returns-then-not-ends_below
returns-then-not-ends_below c = counts-bad _ _ (leaf-over _ _ _ _ _ _ _ _ (search rules) c.ends_below.ensures c.if-not-ends_below.true c.loop-rest.invariant.2)

pub returns : goal.returns
returns c = counts_all _ _ _ (leaf-over _ _ _ _ _ _ _ _ (search rules) c.ends_below.ensures c.if-not-ends_below.false c.loop-rest.invariant.2) (count-done _ _ _ _ (search rules) c.loop-rest.invariant.1 c.capped_sum.ensures.0)
