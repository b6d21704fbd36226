-- The loop of `fill_at`: the first i bytes are put. Relies on specs/Put.
use Rattle.std.specs.Prelude.{◌≡◌, length, replicate}
use Rattle.octets.specs.Put.{put}
use Rattle.octets.proofs.fill_at.Given as goal

abbrev pub invariant-loop-i : goal.invariant-loop-i
invariant-loop-i l = (length l.page ≡ length l.initial.page) × (l.page ≡ put l.initial.page l.at (replicate l.i l.byte))
