-- The loop of `all_zero`: all is zero just when the bytes read and those left are. Relies on image's Bytes.
use Rattle.std.specs.Prelude.{◌≡◌, ◌&&◌, eqb, drop}
use Rattle.image.specs.Bytes.{zeros}
use Rattle.tree_check.proofs.header.all_zero.Given as goal

abbrev pub invariant-loop-byte : goal.invariant-loop-byte
invariant-loop-byte l = (eqb l.most 0 && zeros (drop l.byte-index l.bytes)) ≡ zeros l.bytes
