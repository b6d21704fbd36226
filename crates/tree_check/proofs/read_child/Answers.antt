-- `read_child` meets its contract. Relies on specs/First.
use Rattle.tree_check.specs.First.{unread-childless, other-childless, child-begins}
use Rattle.tree_check.proofs.read_child.Goals as goal

pub returns-in_err-entry : goal.returns-in_err-entry
returns-in_err-entry c = rw c.from_residual.ensures (unread-childless _ c.in_err-entry.ensures)

pub returns-in_default : goal.returns-in_default
returns-in_default c = other-childless _ c.in_default.not-Child _ _ c.in_ok-entry.ensures

pub returns : goal.returns
returns c = child-begins _ _ _ c.in_ok-entry.ensures _ _ c.in-Child.is
