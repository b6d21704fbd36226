-- `first_pivot` meets its contract, by whether a child is left. Relies on node/specs/Spans.
use Rattle.node.specs.Spans.{high-pending, high-last}
use Rattle.slice.proofs.right.first_pivot.Goals as goal

pub returns-in-Some : goal.returns-in-Some
returns-in-Some c = high-pending _ _ _ _ c.in-Some.is

pub returns-in-None : goal.returns-in-None
returns-in-None c = high-last _ _ _ c.in-None.is
