-- The loop of `check_messages`: the messages left run on as all do, and those counted and those left are all. The measure is the bytes left. Relies
-- on specs/Node/Inside.
use Rattle.std.specs.Prelude.{◌+◌, ◌≤◌, ◌≡◌, length}
use Rattle.image.specs.Entry.{entries_of}
use Rattle.path.specs.Fed.{shape_is}
use Rattle.node.specs.Entries.{list_of}
use Rattle.tree_check.specs.Node.Inside.{messages_run}
use Rattle.tree_check.proofs.node_check.check_messages.Given as goal

abbrev pub invariant-loop-rest : goal.invariant-loop-rest
invariant-loop-rest l = (l.count + length l.rest ≤ length l.entries) × (l.count + length (list_of l.rest) ≡ length (list_of l.entries)) × (messages_run (shape_is l.sh) l.lo l.hi (entries_of l.rest) ≡ messages_run (shape_is l.sh) l.lo l.hi (entries_of l.entries))

abbrev pub decreases-loop-rest : goal.decreases-loop-rest
decreases-loop-rest l = length l.rest
