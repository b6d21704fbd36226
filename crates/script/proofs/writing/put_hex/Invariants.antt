-- The loop of `put_hex`: it has put two digits for each of the first i bytes. Relies on image's Program.
use Rattle.std.specs.Prelude.{length, take, ◌*◌, ◌+◌, ◌≡◌, ◌++◌}
use Rattle.image.specs.Program.{hex_text}
use Rattle.script.proofs.writing.put_hex.Given as goal

abbrev pub invariant-loop-i : goal.invariant-loop-i
invariant-loop-i l = (length l.out ≡ length l.initial.out) × (take (l.at + 2 * l.i) l.out ≡ take l.at l.initial.out ++ hex_text (take l.i l.value))
