-- `script::writing::put_value` meets its contract: empty or not (specs/Steps). Assumes nothing.
use Rattle.script.specs.Steps.{empty-wrote, hex-wrote}
use Rattle.script.proofs.writing.put_value.Goals as goal

pub returns-then-value-eq0 : goal.returns-then-value-eq0
returns-then-value-eq0 c = empty-wrote _ _ _ _ _ c.if-value-eq0.true c.put_text.ensures

pub returns : goal.returns
returns c = hex-wrote _ _ _ _ _ c.if-value-eq0.false c.put_hex.ensures
