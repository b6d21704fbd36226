-- The loop of `count_entries`: the count so far and that of the entries left make the count of all. The measure is how many are left. Relies on
-- specs/Walk.
use Rattle.std.specs.Prelude.{◌≤◌, ◌+◌, ◌≡◌, length}
use Rattle.node.specs.Lent.{left_of}
use Rattle.live_count.specs.Walk.{count_among, passing}
use Rattle.live_count.proofs.count_entries.Given as goal

abbrev pub invariant-loop-entry : goal.invariant-loop-entry
invariant-loop-entry l = (l.count + length (left_of l.later) ≤ length (left_of l.entries)) × (l.count + count_among (passing l.here.trail) l.here.prefix (left_of l.later) ≡ count_among (passing l.here.trail) l.here.prefix (left_of l.entries))

abbrev pub decreases-loop-entry : goal.decreases-loop-entry
decreases-loop-entry l = length (left_of l.later)
