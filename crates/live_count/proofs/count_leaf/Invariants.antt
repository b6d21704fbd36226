-- The loop of `count_leaf`: the count so far and that of the pairs left make the count of all. Relies on specs/Walk and specs/Noted.
use Rattle.std.specs.Prelude.{◌≤◌, ◌+◌, ◌≡◌, length}
use Rattle.node.specs.Lent.{left_of}
use Rattle.live_count.specs.Noted.{LeafTold}
use Rattle.live_count.specs.Walk.{count_among, passing}
use Rattle.live_count.proofs.count_leaf.Given as goal

abbrev pub invariant-loop-entry : goal.invariant-loop-entry
invariant-loop-entry l = (l.count + length (left_of l.entry-iterator) ≤ length (left_of l.fn.entries)) × (l.count + count_among (passing l.here.trail) l.here.prefix (left_of l.entry-iterator) ≡ count_among (passing l.here.trail) l.here.prefix (left_of l.fn.entries))
    × LeafTold l.here (left_of l.entry-iterator)
