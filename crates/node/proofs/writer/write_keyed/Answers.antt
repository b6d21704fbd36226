-- `write_keyed` meets its contract: three writes, one after the other, are one entry.
-- Relies on specs/Writer.
use Rattle.std.specs.Prelude.{refl}
use Rattle.node.specs.Writer.{keyed-put}
use Rattle.node.proofs.writer.write_keyed.Goals as goal

pub returns : goal.returns
returns c = (keyed-put c.args.page.now _ _ _ c.args.at c.args.kind c.args.key.now c.args.value.now c.requires.0 c.write_head.ensures c.copy_at.ensures c.copy_at-2.ensures, refl)
