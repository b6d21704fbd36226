-- `write_head` meets its contract.
use Rattle.node.specs.Writer.{head-put}
use Rattle.node.proofs.writer.write_head.Goals as goal

pub returns : goal.returns
returns c = head-put c.args.page.now _ _ _ c.args.at _ _ _ c.requires.0 c.put_u16.ensures c.put_u16-2.ensures c.put_u16-3.ensures
