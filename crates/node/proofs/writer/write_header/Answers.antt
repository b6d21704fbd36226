-- `write_header` meets its contract: six numbers on a page of zeros, and the page as node 0.
-- Relies on specs/Pages.
use Rattle.node.specs.Pages.{head-written}
use Rattle.laws.specs.Page.{zeros_of}
use Rattle.node.proofs.writer.write_header.Goals as goal

pub returns : goal.returns
unfolding zeros_of
returns c = head-written c.args.store.now _ _ c.args.root c.args.levels c.args.live _ _ _ _ _ _ c.put_u16.ensures c.put_u16-2.ensures c.put_u16-3.ensures c.put_u16-4.ensures c.put_u16-5.ensures c.put_u16-6.ensures c.copy_at.ensures
