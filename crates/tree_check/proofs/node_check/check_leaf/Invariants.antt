-- The loop of `check_leaf`: the walk over the entries left, which asks only of the first and the last key whether the leaf owns it, says what the
-- leaf's run says. The measure is the bytes left. Relies on specs/Node/Leaf and specs/Node/Ends.
use Rattle.std.specs.Prelude.{◌+◌, ◌≤◌, ◌≡◌, length}
use Rattle.image.specs.Prelude.{none}
use Rattle.image.specs.Entry.{entries_of}
use Rattle.path.specs.Fed.{shape_is}
use Rattle.node.specs.Entries.{list_of}
use Rattle.node.specs.Lent.{value_is}
use Rattle.tree_check.specs.Node.Leaf.{leaf_run}
use Rattle.tree_check.specs.Node.Ends.{walk_run}
use Rattle.tree_check.proofs.node_check.check_leaf.Given as goal

abbrev pub invariant-loop-rest : goal.invariant-loop-rest
invariant-loop-rest l = (l.count + length l.rest ≤ length l.entries) × (l.count + length (list_of l.rest) ≡ length (list_of l.entries)) × (walk_run (shape_is l.sh) l.lo l.hi (value_is l.previous) (entries_of l.rest) ≡ leaf_run (shape_is l.sh) l.lo l.hi none (entries_of l.entries))

abbrev pub decreases-loop-rest : goal.decreases-loop-rest
decreases-loop-rest l = length l.rest
