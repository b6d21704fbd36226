-- `weigh_node` meets its contract. Relies on specs/WeighSteps.
use Rattle.image.specs.Prelude.{arith, subst}
use Rattle.image.specs.Image.{nodes_of}
use Rattle.merge.specs.Light.{Light}
use Rattle.merge.specs.WeighSteps.{node-out, node-long, listed-light, node-weighs}
use Rattle.merge.proofs.weigh.weigh_node.Goals as goal

pub returns-then-store-num : goal.returns-then-store-num
unfolding nodes_of
returns-then-store-num c = node-out _ _ _ _ (omega arith)

pub returns-then-read_length-gt-ENTRIES_LIMIT : goal.returns-then-read_length-gt-ENTRIES_LIMIT
unfolding nodes_of
returns-then-read_length-gt-ENTRIES_LIMIT c = let e = c.read_length.ensures.0 in node-long _ _ _ _ (omega arith) (omega arith)

pub weigh_entries-requires : goal.weigh_entries-requires
weigh_entries-requires c = let e = c.read_length.ensures.0 in (listed-light _ _ _ c.of_node.ensures.lists (omega arith), c.requires.0, c.requires.1)

pub returns : goal.returns
unfolding nodes_of
returns c = subst (λ w. Light w c.weigh_entries.result) (node-weighs _ _ _ _ _ c.of_node.ensures.lists (omega arith) (omega arith)) c.weigh_entries.ensures
