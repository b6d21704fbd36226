-- The loop of `put_exchanged`: it has put the first i bytes. Relies on image's Program.
use Rattle.std.specs.Prelude.{length, take, ◌+◌, ◌≡◌, ◌++◌}
use Rattle.image.specs.Program.{exchanged}
use Rattle.script.proofs.writing.put_exchanged.Given as goal

abbrev pub invariant-loop-i : goal.invariant-loop-i
invariant-loop-i l = (length l.out ≡ length l.initial.out) × (take (l.at + l.i) l.out ≡ take l.at l.initial.out ++ exchanged l.from l.to (take l.i l.s))
