-- The loop of `read_hex`: it has read two digits for each of i bytes, and the rest is still to be read. Relies on specs/Reading.
use Rattle.std.specs.Prelude.{length, take, drop, ◌*◌, ◌≡◌}
use Rattle.script.specs.Reading.{behind_all}
use Rattle.image.specs.Program.{bytes_of}
use Rattle.script.proofs.reading.read_hex.Given as goal

abbrev pub invariant-loop-i : goal.invariant-loop-i
invariant-loop-i l = (length l.value ≡ length l.initial.value) × (bytes_of l.hex ≡ behind_all (take l.i l.value) (bytes_of (drop (2 * l.i) l.hex)))
