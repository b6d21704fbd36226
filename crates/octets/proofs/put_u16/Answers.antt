-- `put_u16` meets its contract: the part that is written. Relies on specs/Library.
use Rattle.std.proofs.Common.{rules}
use Rattle.image.specs.Prelude.{arith}
use Rattle.image.specs.Bytes.{u16_bytes}
use Rattle.octets.specs.Library.{part_put}
use Rattle.octets.proofs.put_u16.Goals as goal

pub returns : goal.returns
returns c = part_put _ _ _ (u16_bytes c.args.v) _ (search rules) (omega arith)
