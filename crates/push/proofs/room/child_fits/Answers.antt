-- `child_fits` meets its contract: the child is a node of the store, and the sum fits. Relies on specs/ReadSteps.
use Rattle.image.specs.Prelude.{arith}
use Rattle.image.specs.Image.{nodes_of}
use Rattle.push.specs.ReadSteps.{room-no, room-is}
use Rattle.push.proofs.room.child_fits.Goals as goal

pub returns-then-store-child : goal.returns-then-store-child
unfolding nodes_of
returns-then-store-child c = room-no _ _ _ _ _ (omega arith)

pub returns : goal.returns
unfolding nodes_of
returns c = room-is _ _ _ _ _ _ _ (omega arith) c.read_length-used.ensures.0 c.messages_fit.ensures
