-- `push_down` meets its contract: the pivot was found. Relies on specs/NodeSteps.
use Rattle.push.specs.NodeSteps.{no_room}
use Rattle.push.proofs.push_down.Goals as goal

pub push_node-requires : goal.push_node-requires
push_node-requires c = record { whole = c.requires.0; is_sound = c.requires.1; reached = c.requires.2; high = c.in-Some.ensures }

pub returns-in_default : goal.returns-in_default
returns-in_default c = no_room _ _
