-- `script::writing::put_end` meets its contract: the text is the definition's. Assumes nothing.
use Rattle.std.proofs.Common.{rules}
use Rattle.image.specs.Program.{end_text}
use Rattle.script.proofs.writing.put_end.Goals as goal

pub returns : goal.returns
unfolding end_text
returns c = search rules
