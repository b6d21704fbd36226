-- Messages of a node, checked and counted. Relies on node_check and on ChildSteps.
use Rattle.tree_check.specs.ChildSteps.{messages-unsound, messages-sound}
use Rattle.tree_check.specs.Node.Counted.{counts-no, counts-yes}
use Rattle.tree_check.proofs.check_messages.Goals as goal

pub returns-in_err-messages : goal.returns-in_err-messages
returns-in_err-messages c = rw c.from_residual.ensures (messages-unsound _ _ (counts-no _ _ _ c.check_messages.ensures c.in_err-messages.was))

pub returns : goal.returns
returns c = messages-sound _ _ (counts-yes _ _ _ c.check_messages.ensures _ c.in_ok-messages.was) _ (c.check_messages.ensures.number _ c.in_ok-messages.was)
