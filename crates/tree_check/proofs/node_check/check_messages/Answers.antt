-- `check_messages` meets its contract: message by message, and the count as it goes. Relies on specs/Node/Messages and specs/Node/Counted.
use Rattle.std.specs.Prelude.{refl}
use Rattle.std.proofs.Common.{rules}
use Rattle.image.specs.Prelude.{arith}
use Rattle.tree_check.specs.Node.Messages.{notes-unread, notes-end, notes-other, notes-stop, notes-on}
use Rattle.tree_check.specs.Node.Counted.{counts-bad, counts_all, count-done, count-on}
use Rattle.tree_check.proofs.node_check.check_messages.Goals as goal

pub loop-rest-init : goal.loop-rest-init
loop-rest-init c = (omega arith, omega arith, refl)

pub returns-in_err-entry : goal.returns-in_err-entry
returns-in_err-entry c = rw c.from_residual.ensures (counts-bad _ _ (notes-unread _ _ _ _ _ (search rules) c.in_err-entry.ensures c.loop-rest.invariant.2))

pub returns-in_default : goal.returns-in_default
returns-in_default c = counts-bad _ _ (notes-other _ _ _ _ _ _ c.in_ok-entry.ensures _ c.loop-rest.invariant.2 c.in_default.not-Message)

pub returns-then-not-message_good : goal.returns-then-not-message_good
returns-then-not-message_good c = counts-bad _ _ (notes-stop _ _ _ _ _ _ c.in_ok-entry.ensures _ c.loop-rest.invariant.2 _ c.in-Message.is c.message_good.result c.message_good.ensures c.if-not-message_good.true)

pub overflow_add-count : goal.overflow_add-count
overflow_add-count c = let l = c.in_ok-entry.ensures.shorter in omega arith

pub loop-rest-smaller : goal.loop-rest-smaller
loop-rest-smaller c = let l = c.in_ok-entry.ensures.shorter in omega arith

pub loop-rest-preserved : goal.loop-rest-preserved
loop-rest-preserved c = let l = c.in_ok-entry.ensures.shorter in (omega arith, count-on _ _ _ _ _ c.in_ok-entry.ensures.lists c.loop-rest.invariant.1, notes-on _ _ _ _ _ _ c.in_ok-entry.ensures _ c.loop-rest.invariant.2 _ c.in-Message.is c.message_good.result c.message_good.ensures c.if-not-message_good.false)

pub returns : goal.returns
returns c = counts_all _ _ _ (notes-end _ _ _ _ _ (search rules) c.loop-rest.invariant.2) (count-done _ _ _ _ (search rules) c.loop-rest.invariant.1 c.capped_sum.ensures.0)
