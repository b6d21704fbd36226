-- `script::writing::put_text` meets its contract: a copy, as a text that was put (specs/Writing). Assumes nothing.
use Rattle.std.proofs.Common.{rules}
use Rattle.script.specs.Writing.{wrote-copy}
use Rattle.script.proofs.writing.put_text.Goals as goal

pub returns : goal.returns
returns c = search (rules, wrote-copy)
