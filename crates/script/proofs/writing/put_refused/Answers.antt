-- `script::writing::put_refused` meets its contract: the word, the number and the line feed, one after another (specs/Steps). Assumes nothing.
use Rattle.script.specs.Steps.{refused-wrote}
use Rattle.script.proofs.writing.put_refused.Goals as goal

pub returns : goal.returns
returns c = refused-wrote _ _ _ _ _ _ _ _ c.put_text-at.ensures c.put_decimal-end.ensures.0 c.put_byte.ensures
