-- `u16_at` meets its contract: the library's number of two bytes. Relies on image's Bytes.
use Rattle.image.specs.Prelude.{arith}
use Rattle.image.specs.Bytes.{u16}
use Rattle.octets.proofs.u16_at.Goals as goal

pub returns : goal.returns
unfolding u16
returns c = (omega (arith, c.from.ensures, c.from_le_bytes.ensures), omega (arith, c.from.ensures, c.from_le_bytes.ensures))
