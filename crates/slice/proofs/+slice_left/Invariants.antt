-- What falls from one call of `slice_left` to the next: the level, from a node to its child.
use Rattle.slice.proofs.+slice_left.Given as goal

abbrev pub decreases-slice_left : goal.decreases-slice_left
decreases-slice_left l = l.slot.level
