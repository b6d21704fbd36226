-- The loop of `mark_tree`: what is marked, with what the entries left would mark, is the tree. The measure of the function itself is the level.
-- Relies on specs/MarkSteps.
use Rattle.tree_check.specs.MarkSteps.{Left}
use Rattle.node.specs.Lent.{left_of}
use Rattle.image.specs.Image.{tree_at}
use Rattle.std.specs.Prelude.{◌-◌}
use Rattle.tree_check.proofs.marks.+mark_tree.Given as goal

abbrev pub decreases-mark_tree : goal.decreases-mark_tree
decreases-mark_tree l = l.level

abbrev pub invariant-loop-entry : goal.invariant-loop-entry
invariant-loop-entry l = Left l.store (l.level - 1) l.num (tree_at l.level l.store l.num) l.initial.seen (left_of l.entry-iterator) l.seen l.quiet
