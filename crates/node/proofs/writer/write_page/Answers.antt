-- `write_page` meets its contract: the page at its node, then three writes of its first bytes.
-- Relies on specs/Writer.
use Rattle.node.specs.Writer.{first-bytes-put}
use Rattle.node.proofs.writer.write_page.Goals as goal

pub returns : goal.returns
returns c = first-bytes-put c.args.store.now _ _ _ _ c.args.page.now c.args.num c.args.kind c.args.level c.args.size c.requires.0 c.requires.1 c.copy_at.ensures c.put_u16.ensures c.put_u16-2.ensures c.put_u16-3.ensures
