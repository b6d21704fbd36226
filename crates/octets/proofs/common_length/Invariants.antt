-- The loop of `common_length`: the first i bytes are shared, and the rest is counted in what is left of both. Relies on image's Bytes.
use Rattle.std.specs.Prelude.{◌+◌, ◌≡◌, length, drop}
use Rattle.image.specs.Bytes.{shared}
use Rattle.octets.proofs.common_length.Given as goal

abbrev pub invariant-loop-i : goal.invariant-loop-i
invariant-loop-i l = length (shared l.a l.b) ≡ l.i + length (shared (drop l.i l.a) (drop l.i l.b))
