-- `count_children` and `count_node` meet their contracts: a node counts what its own entries decide and what its children count, which see the trail
-- with the node's messages. Relies on specs/NodeSteps, specs/TreeSteps and specs/WalkLaws.
use Rattle.std.specs.Prelude.{refl, length}
use Rattle.image.specs.Prelude.{arith, ap, sym, ◌∙◌}
use Rattle.image.specs.Image.{nodes_of, tree_at, forest_of}
use Rattle.laws.specs.Reading.Relative.{branch_high, usable_in, first-usable, later-usable}
use Rattle.node.specs.Search.Own.{branch}
use Rattle.node.specs.Spans.{pending_of}
use Rattle.lookup.specs.Look.{node-inside, part-rest}
use Rattle.octets.specs.Cap.{cap-small}
use Rattle.live_count.specs.Walk.{passing}
use Rattle.live_count.specs.WalkLaws.{walk-none, walk-on}
use Rattle.live_count.specs.NodeSteps.{node-long, node-leaf, node-inner, branches-ready, few-entries}
use Rattle.live_count.specs.TreeSteps.{leaf-told, branches_sound, child-sound, child-told, later-sound}
use Rattle.live_count.proofs.+count_children_count_node.Goals as goal

pub count_children-count_node-count-requires : goal.count_children-count_node-count-requires
count_children-count_node-count-requires t c =
    let i = c.loop-child.invariant in let g = c.in-Some.ensures.steps in
    let b = g.ends ∙ ap (λ h. branch_high h (pending_of c.next.new.self)) i.1 in (
      omega arith,
      (
        record {
          reads = first-usable (nodes_of (length c.args.store.now)) (λ j. tree_at c.args.level c.args.store.now j) (branch c.in-Some.child.number c.in-Some.child.low.now) (pending_of c.next.new.self)
              (ap (λ ks. usable_in (nodes_of (length c.args.store.now)) (forest_of (λ j. tree_at c.args.level c.args.store.now j) ks)) (sym g.first) ∙ i.2);
          deep = c.requires.0.deep;
        },
        child-sound c.args.store.now c.args.level c.in-Some.child.number c.in-Some.child.low.now _ _ _ c.args.here.now i.4 g.first _ b,
        child-told c.args.store.now c.args.level c.in-Some.child.number c.in-Some.child.low.now _ _ _ c.args.here.now i.4 g.first _ b,
      ),
    )

pub count_children-loop-child-preserved : goal.count_children-loop-child-preserved
count_children-loop-child-preserved t c =
    let i = c.loop-child.invariant in let g = c.in-Some.ensures.steps in
    let b = g.ends ∙ ap (λ h. branch_high h (pending_of c.next.new.self)) i.1 in (
      c.capped_sum-total.ensures.1,
      g.keeps ∙ i.1,
      later-usable (nodes_of (length c.args.store.now)) (λ j. tree_at c.args.level c.args.store.now j) (branch c.in-Some.child.number c.in-Some.child.low.now) (pending_of c.next.new.self) (pending_of c.next.new.self) refl
          (ap (λ ks. usable_in (nodes_of (length c.args.store.now)) (forest_of (λ j. tree_at c.args.level c.args.store.now j) ks)) (sym g.first) ∙ i.2),
      walk-on (λ j. tree_at c.args.level c.args.store.now j) (passing c.args.here.now.trail) c.args.here.now.prefix c.args.children.high.now c.in-Some.child.number c.in-Some.child.low.now c.in-Some.child.high.now _ b _ _ _ _ _ g.first c.count_node-count.ensures.0 c.capped_sum-total.ensures.0 i.3,
      later-sound c.args.store.now c.args.level c.in-Some.child.number c.in-Some.child.low.now _ _ _ c.args.here.now i.4 g.first,
    )

pub count_children-returns : goal.count_children-returns
count_children-returns t c = let i = c.loop-child.invariant in (walk-none _ _ _ _ _ _ _ c.in-None.ensures.steps (cap-small _ i.0) i.3, i.0)

pub count_node-returns-in_default : goal.count_node-returns-in_default
count_node-returns-in_default t c = (node-long _ _ _ c.args.above.now c.requires.0 _ _ c.in_default.ensures, omega arith)

pub count_node-of_node-entries-requires : goal.count_node-of_node-entries-requires
count_node-of_node-entries-requires t c = (node-inside c.args.store.now c.args.node.number c.args.level c.requires.0.reads).0

pub count_node-count_leaf-requires : goal.count_node-count_leaf-requires
count_node-count_leaf-requires t c = leaf-told c.args.above.now _ _ _ _ c.in-Some.ensures c.args.store.now c.args.level c.args.node.number c.requires.0.reads c.requires.1 c.of_node-entries.result c.of_node-entries.ensures.lists c.if-level-le1.true

pub count_node-returns-then-level-le1 : goal.count_node-returns-then-level-le1
count_node-returns-then-level-le1 t c =
    let f = few-entries c.args.store.now c.args.node.number c.args.level c.of_node-entries.result c.requires.0.reads c.of_node-entries.ensures.bytes in
    let m = c.count_leaf.ensures.1 in
    (node-leaf _ _ _ c.args.above.now c.requires.0 _ _ _ c.arrive.new.self c.in-Some.ensures c.of_node-entries.result c.count_leaf.result c.of_node-entries.ensures.lists c.count_leaf.ensures.0 c.if-level-le1.true (omega arith), omega arith)

pub count_node-count_children-under-requires : goal.count_node-count_children-under-requires
count_node-count_children-under-requires t c = let v = c.if-level-le1.false in (
  omega arith,
  (
    branches-ready _ _ _ c.args.above.now c.requires.0 _ _ _ c.arrive.new.self c.in-Some.ensures c.of_node-entries.result c.count_entries-own.result c.of_node-entries.ensures.lists c.count_entries-own.ensures.0 (omega arith) _ _ c.enter.new.self c.enter.ensures _ c.among.ensures.pending,
    branches_sound c.args.above.now _ _ _ c.arrive.new.self c.in-Some.ensures c.args.store.now c.args.level c.args.node.number c.requires.0.reads c.requires.1 c.of_node-entries.result c.of_node-entries.ensures.lists (omega arith) c.enter.new.self _ _ _ (part-rest c.in-Some.lifted c.args.node.low.now) (part-rest c.in-Some.lifted c.args.node.high.now) c.enter.ensures _ c.among.ensures.pending c.among.ensures.high,
  ),
)

pub count_node-returns : goal.count_node-returns
count_node-returns t c = let v = c.if-level-le1.false in (
  node-inner _ _ _ c.args.above.now c.requires.0 _ _ _ c.arrive.new.self c.in-Some.ensures c.of_node-entries.result c.count_entries-own.result c.of_node-entries.ensures.lists c.count_entries-own.ensures.0 (omega arith) _ _ c.enter.new.self c.enter.ensures _ c.among.ensures.pending
      c.count_children-under.result _ _ (c.among.ensures.high ∙ part-rest c.in-Some.lifted c.args.node.high.now) c.count_children-under.ensures.0 c.capped_sum.ensures.0,
  c.capped_sum.ensures.1,
)
