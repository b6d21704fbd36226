-- `free_above` meets its contract: no message at the root, a level left, and a node that the marks leave free. Relies on specs/Room.
use Rattle.image.specs.Prelude.{arith}
use Rattle.edit.specs.Room.{marked-here, above-found, few-nodes}
use Rattle.tree_check.specs.Layout.{nodes-are}
use Rattle.edit.proofs.free_above.Goals as goal

pub read_levels-requires : goal.read_levels-requires
read_levels-requires c = omega (arith, (few-nodes _ c.requires.0).1)

pub first_free-requires : goal.first_free-requires
first_free-requires c = let w = few-nodes _ c.requires.0 in omega (arith, w.0)

pub returns-in-Some : goal.returns-in-Some
returns-in-Some c = above-found _ _ _ _ _ (marked-here _ _ _ c.requires.2 c.in-Some.is) (nodes-are _) c.read_levels.ensures.0 (omega arith) c.first_free.ensures

pub mark_nodes-requires : goal.mark_nodes-requires
mark_nodes-requires c = (c.requires.0, c.requires.1)

pub first_free-requires-2 : goal.first_free-requires-2
first_free-requires-2 c = let w = few-nodes _ c.requires.0 in omega (arith, w.0)

pub returns : goal.returns
returns c = above-found _ _ _ _ _ c.mark_nodes.ensures.0 (nodes-are _) c.read_levels.ensures.0 (omega arith) c.first_free-2.ensures
