-- `write_child` meets its contract: two writes, one after the other, are one entry.
-- Relies on specs/Writer.
use Rattle.std.specs.Prelude.{refl}
use Rattle.node.specs.Writer.{child-put}
use Rattle.node.proofs.writer.write_child.Goals as goal

pub returns : goal.returns
returns c = (child-put c.args.page.now _ _ c.args.at c.args.number c.args.suffix.now c.requires.0 c.write_head.ensures c.copy_at.ensures, refl)
