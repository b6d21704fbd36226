-- The loop of `find_byte`: it has passed i other bytes. Relies on specs/Find.
use Rattle.std.specs.Prelude.{◌+◌, ◌≡◌, drop}
use Rattle.script.specs.Find.{up_to}
use Rattle.script.proofs.reading.find_byte.Given as goal

abbrev pub invariant-loop-i : goal.invariant-loop-i
invariant-loop-i l = up_to l.b l.s ≡ l.i + up_to l.b (drop l.i l.s)
