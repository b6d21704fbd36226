-- `apply_message` meets its contract: the page holds the pairs after the message. Relies on specs/LeafSteps.
use Rattle.std.specs.Prelude.{length}
use Rattle.image.specs.Prelude.{arith, ap}
use Rattle.push.specs.LeafSteps.{leaf-fits, leaf-written}
use Rattle.push.proofs.leaf.apply_message.Goals as goal

pub emit_leaf-requires : goal.emit_leaf-requires
emit_leaf-requires c = let f = leaf-fits _ _ _ _ c.of_node.ensures.lists c.requires.0 c.requires.1 in let z = ap length c.new-page.ensures in omega arith

pub returns : goal.returns
returns c = leaf-written _ _ _ _ c.of_node.ensures.lists _ _ _ c.new-page.ensures c.emit_leaf.ensures c.write.ensures
