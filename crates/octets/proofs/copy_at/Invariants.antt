-- The loop of `copy_at`: the first i bytes are put. Relies on specs/Put.
use Rattle.std.specs.Prelude.{◌≡◌, length, take}
use Rattle.octets.specs.Put.{put}
use Rattle.octets.proofs.copy_at.Given as goal

abbrev pub invariant-loop-i : goal.invariant-loop-i
invariant-loop-i l = (length l.page ≡ length l.initial.page) × (l.page ≡ put l.initial.page l.at (take l.i l.src))
