-- What falls from one call of `slice_right` to the next: the level, from a node to its child.
use Rattle.slice.proofs.right.+slice_right.Given as goal

abbrev pub decreases-slice_right : goal.decreases-slice_right
decreases-slice_right l = l.slot.level
