-- `followed_by` meets its contract: what `join` says, told by the buffer. Relies on specs/Fitted.
use Rattle.node.specs.Fitted.{fitted-told}
use Rattle.node.proofs.path_buffer.PathBuffer.followed_by.Goals as goal

pub returns : goal.returns
returns c = fitted-told _ _ (rw c.as_slice.ensures.held at c.join.ensures)
