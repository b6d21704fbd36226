-- What falls from one call of `lookup` to the next: the level, from a node to its child.
use Rattle.lookup.proofs.+lookup.Given as goal

abbrev pub decreases-lookup : goal.decreases-lookup
decreases-lookup l = l.level
