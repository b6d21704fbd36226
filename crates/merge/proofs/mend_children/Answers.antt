-- `mend_children` meets its contract: the heal of the node with the high pivot that was found. Relies on specs/NodeSteps.
use Rattle.merge.specs.NodeSteps.{is-kept}
use Rattle.merge.proofs.mend_children.Goals as goal

pub returns-in_default : goal.returns-in_default
returns-in_default c = is-kept _ _ c.requires.1 c.requires.2 c.in_default.ensures _

pub mend_node-requires : goal.mend_node-requires
mend_node-requires c = record { whole = c.requires.0; is_sound = c.requires.1; reached = c.requires.2; high = c.in-Some.ensures }
