-- What falls from one call of `write_gap` to the next: the level, down the chain.
use Rattle.slice.proofs.gap.+write_gap.Given as goal

abbrev pub decreases-write_gap : goal.decreases-write_gap
decreases-write_gap l = l.level
