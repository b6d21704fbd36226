-- `script::writing::put_bad` meets its contract: the text is the definition's. Assumes nothing.
use Rattle.std.proofs.Common.{rules}
use Rattle.image.specs.Program.{bad_text}
use Rattle.script.proofs.writing.put_bad.Goals as goal

pub returns : goal.returns
unfolding bad_text
returns c = search rules
