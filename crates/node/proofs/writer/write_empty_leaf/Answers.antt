-- `write_empty_leaf` meets its contract.
-- Relies on specs/Pages.
use Rattle.node.specs.Pages.{leaf-written}
use Rattle.laws.specs.Page.{zeros_of}
use Rattle.node.proofs.writer.write_empty_leaf.Goals as goal

pub returns : goal.returns
unfolding zeros_of
returns c = leaf-written c.args.store.now _ c.args.num c.write_page.ensures
