-- The loop of `clear_marks`: the marks left to clear, cleared in the area as it is, make the area with all of them cleared. The measure is how many
-- are left. Relies on specs/Rows/Remark.
use Rattle.std.specs.Prelude.{◌-◌, ◌≤◌, ◌≡◌, length}
use Rattle.packed.specs.Rows.Remark.{clear_marks}
use Rattle.packed.proofs.rows.clear_marks.Given as goal

abbrev pub invariant-loop-i : goal.invariant-loop-i
invariant-loop-i l = (l.i ≤ l.to) × (length l.area ≡ length l.initial.area) × (clear_marks (l.to - l.from) l.initial.area l.from ≡ clear_marks (l.to - l.i) l.area l.i)

abbrev pub decreases-loop-i : goal.decreases-loop-i
decreases-loop-i l = l.to - l.i
