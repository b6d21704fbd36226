-- `script::writing::put_decimal` meets its contract: one digit or two (specs/Steps). Assumes nothing.
use Rattle.image.specs.Prelude.{arith}
use Rattle.script.specs.Steps.{one-digit, two_digits}
use Rattle.script.proofs.writing.put_decimal.Goals as goal

pub returns-then-number-lt10 : goal.returns-then-number-lt10
returns-then-number-lt10 c = (one-digit _ _ _ c.if-number-lt10.true _ _ c.put_byte.ensures, omega (arith, c.put_byte.ensures.ends))

pub returns : goal.returns
returns c = (two_digits _ _ _ c.if-number-lt10.false _ _ _ _ c.put_byte-next.ensures c.put_byte-2.ensures, omega (arith, c.put_byte-next.ensures.ends, c.put_byte-2.ensures.ends))
