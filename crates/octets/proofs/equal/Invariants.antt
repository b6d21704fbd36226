-- The loop of `equal`: behind the first i bytes the two are the same. The measure is i. Relies on image's Bytes.
use Rattle.std.specs.Prelude.{◌≤◌, ◌≡◌, length, drop, true}
use Rattle.image.specs.Bytes.{same}
use Rattle.octets.proofs.equal.Given as goal

abbrev pub invariant-loop-i : goal.invariant-loop-i
invariant-loop-i l = (l.i ≤ length l.a) × (l.i ≤ length l.b) × (same (drop l.i l.a) (drop l.i l.b) ≡ true)

abbrev pub decreases-loop-i : goal.decreases-loop-i
decreases-loop-i l = l.i
