-- `script::reading::read_value` meets its contract: a hyphen, or hexadecimal (specs/Reading). Assumes nothing.
use Rattle.script.specs.Reading.{hyphen-value, other-value}
use Rattle.script.proofs.reading.read_value.Goals as goal

pub returns-then-equal : goal.returns-then-equal
returns-then-equal c = hyphen-value _ _ _ c.equal.ensures c.if-equal.true

pub returns : goal.returns
returns c = other-value _ _ _ _ c.equal.ensures c.if-equal.false c.read_hex.ensures
