-- The loop of `walk_entries`: the paths of the entries that are left are not seen yet. Relies on specs/Visited.
use Rattle.laws.specs.Reading.SeekHere.{under}
use Rattle.node.specs.Lent.{left_of}
use Rattle.successor.specs.Walk.{paths_of}
use Rattle.successor.specs.Visited.{Visited}
use Rattle.successor.proofs.walk.walk_entries.Given as goal

abbrev pub invariant-loop-entry : goal.invariant-loop-entry
invariant-loop-entry g l = Visited g.V.Visitor.walks l.fn.visitor l.visitor (under l.pre (paths_of (left_of l.entry-iterator))) (under l.pre (paths_of (left_of l.fn.entries)))
