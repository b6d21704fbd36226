-- `script::writing::exchange_byte` meets its contract: by the test on the byte. Assumes nothing.
use Rattle.image.specs.Prelude.{eq-eqb, ne_eqb}
use Rattle.script.proofs.writing.exchange_byte.Goals as goal

pub returns-then-c-from : goal.returns-then-c-from
returns-then-c-from c = search eq-eqb

pub returns : goal.returns
returns c = search ne_eqb
