-- The loop of `mend_node`: the image is the first one with so many pairs merged. The measure is how many children are left. Relies on
-- specs/Laws/Mended.
use Rattle.std.specs.Prelude.{length, ◌≡◌}
use Rattle.merge.specs.Laws.Mended.{Mendable, SoFar, branches_left}
use Rattle.merge.proofs.mend_node.Given as goal

abbrev pub invariant-loop : goal.invariant-loop
invariant-loop l = Mendable l.store l.num l.high × SoFar l.initial.store l.num l.store × (length l.store ≡ length l.initial.store)

abbrev pub decreases-loop : goal.decreases-loop
decreases-loop l = branches_left l.store l.num
