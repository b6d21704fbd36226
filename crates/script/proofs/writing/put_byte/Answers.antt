-- `script::writing::put_byte` meets its contract: one byte, as a text that was put (specs/Writing). Assumes nothing.
use Rattle.script.specs.Writing.{wrote-byte}
use Rattle.script.proofs.writing.put_byte.Goals as goal

pub returns : goal.returns
returns c = wrote-byte _ _ _ c.requires
