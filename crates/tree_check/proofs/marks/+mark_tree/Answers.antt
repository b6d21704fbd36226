-- `mark_tree` meets its contract. The level falls from a node to its children. The loop over a node's entries: what is marked, with what the
-- entries that are left would mark, is the tree. Relies on specs/MarkSteps.
use Rattle.tree_check.specs.MarkSteps.{number-low, leaf-marked, left-start, left_end, left-message, child-usable, left-next}
use Rattle.lookup.specs.Look.{node-inside}
use Rattle.std.specs.Prelude.{refl}
use Rattle.image.specs.Prelude.{arith}
use Rattle.tree_check.proofs.marks.+mark_tree.Goals as goal

pub bounds-seen-num : goal.bounds-seen-num
bounds-seen-num t c = number-low c.args.store.now c.args.level c.args.num c.requires.1 c.requires.0

pub returns-then-level-le1 : goal.returns-then-level-le1
returns-then-level-le1 t c = leaf-marked _ _ _ c.requires.1 _ (omega arith)

pub of_node-entry-items-requires : goal.of_node-entry-items-requires
of_node-entry-items-requires t c = (node-inside c.args.store.now c.args.num c.args.level c.requires.1).0

pub loop-entry-init : goal.loop-entry-init
loop-entry-init t c = rw c.into_iter-entry-iterator.ensures.into_iter_gives (left-start c.args.store.now c.args.level c.args.num c.requires.1 _ (omega arith) _ c.of_node-entry-items.ensures.lists)

pub returns : goal.returns
returns t c = left_end _ _ _ _ _ _ _ _ c.loop-entry.invariant _ refl c.in-None.ensures.steps.0

pub returns-in_default : goal.returns-in_default
returns-in_default t c = left-message _ _ _ _ _ _ _ _ c.loop-entry.invariant _ _ c.in-Some.ensures.steps _ refl c.in_default.not-Child

pub mark_tree-quiet-requires : goal.mark_tree-quiet-requires
mark_tree-quiet-requires t c = (omega arith, (c.requires.0, child-usable _ _ _ _ _ _ _ _ c.loop-entry.invariant _ _ c.in-Some.ensures.steps _ _ c.in-Child.is))

pub loop-entry-preserved : goal.loop-entry-preserved
loop-entry-preserved t c = left-next _ _ _ _ _ _ _ _ c.loop-entry.invariant _ _ c.in-Some.ensures.steps _ _ c.in-Child.is _ _ _ c.mark_tree-quiet.ensures refl
