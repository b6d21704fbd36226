-- `write_short` meets its contract: three writes, one after the other, are one entry.
-- Relies on specs/Writer.
use Rattle.std.specs.Prelude.{refl}
use Rattle.node.specs.Writer.{short-put}
use Rattle.node.proofs.writer.write_short.Goals as goal

pub returns : goal.returns
returns c = (short-put c.args.page.now _ _ _ c.args.at c.args.kind c.args.key.now c.requires.0 c.put_u16.ensures c.put_u16-2.ensures c.copy_at.ensures, refl)
