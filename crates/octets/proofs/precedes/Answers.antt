-- `precedes` meets its contract. Relies on specs/Compare.
use Rattle.image.specs.Prelude.{arith}
use Rattle.octets.specs.Compare.{no-by, yes-by, at-by}
use Rattle.octets.proofs.precedes.Goals as goal

pub returns-then-b-k : goal.returns-then-b-k
returns-then-b-k c = no-by _ _ _ c.common_length-k.ensures.0 (omega arith)

pub returns-then-a-k : goal.returns-then-a-k
returns-then-a-k c = yes-by _ _ _ c.common_length-k.ensures.0 (omega arith) (omega arith)

pub returns : goal.returns
returns c = at-by _ _ _ c.common_length-k.ensures.0 (omega arith) (omega arith)
