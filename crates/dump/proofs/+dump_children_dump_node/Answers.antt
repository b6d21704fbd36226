-- `dump_children` and `dump_node` meet their contracts: the rows so far, and those of the children left, make all. Relies on specs/NodeSteps and on
-- live_count's NodeSteps and TreeSteps.
use Rattle.std.specs.Prelude.{refl, length}
use Rattle.image.specs.Prelude.{arith, ap, sym, ◌∙◌}
use Rattle.image.specs.Image.{nodes_of, tree_at, forest_of}
use Rattle.laws.specs.Reading.Relative.{branch_high, usable_in, first-usable, later-usable}
use Rattle.node.specs.Search.Own.{branch}
use Rattle.node.specs.Lent.{left_of}
use Rattle.node.specs.Spans.{pending_of}
use Rattle.lookup.specs.Look.{node-inside, part-rest}
use Rattle.live_count.specs.Walk.{passing, count_among}
use Rattle.live_count.specs.NodeSteps.{branches-ready}
use Rattle.live_count.specs.TreeSteps.{leaf-told, branches_sound, child-sound, child-told, later-sound}
use Rattle.dump.specs.NodeSteps.{node-long, leaf-values, leaf_room, leaf-added, branches-room, puts_open, puts-apart, node-inner, own-lifts, descend-end, more_room, descend-next}
use Rattle.dump.proofs.+dump_children_dump_node.Goals as goal

pub dump_children-dump_node-m-requires : goal.dump_children-dump_node-m-requires
dump_children-dump_node-m-requires t c =
    let i = c.loop-child.invariant in let g = c.in-Some.ensures.steps in
    let b = g.ends ∙ ap (λ h. branch_high h (pending_of c.next.new.self)) i.0 in (
      omega arith,
      (
        record {
          reads = first-usable (nodes_of (length c.args.store.now)) (λ j. tree_at c.args.level c.args.store.now j) (branch c.in-Some.child.number c.in-Some.child.low.now) (pending_of c.next.new.self)
              (ap (λ ks. usable_in (nodes_of (length c.args.store.now)) (forest_of (λ j. tree_at c.args.level c.args.store.now j) ks)) (sym g.first) ∙ i.1);
          deep = c.requires.0.deep;
        },
        child-sound c.args.store.now c.args.level c.in-Some.child.number c.in-Some.child.low.now _ _ _ c.args.here.now i.3 g.first _ b,
        more_room _ _ _ _ _ _ _ _ _ _ _ i.2 c.in-Some.child.number c.in-Some.child.low.now c.in-Some.child.high.now _ g.first b,
        child-told c.args.store.now c.args.level c.in-Some.child.number c.in-Some.child.low.now _ _ _ c.args.here.now i.3 g.first _ b,
      ),
    )

pub dump_children-loop-child-preserved : goal.dump_children-loop-child-preserved
dump_children-loop-child-preserved t c =
    let i = c.loop-child.invariant in let g = c.in-Some.ensures.steps in
    let b = g.ends ∙ ap (λ h. branch_high h (pending_of c.next.new.self)) i.0 in (
      g.keeps ∙ i.0,
      later-usable (nodes_of (length c.args.store.now)) (λ j. tree_at c.args.level c.args.store.now j) (branch c.in-Some.child.number c.in-Some.child.low.now) (pending_of c.next.new.self) (pending_of c.next.new.self) refl
          (ap (λ ks. usable_in (nodes_of (length c.args.store.now)) (forest_of (λ j. tree_at c.args.level c.args.store.now j) ks)) (sym g.first) ∙ i.1),
      descend-next _ _ _ _ _ _ _ _ _ _ _ i.2 c.in-Some.child.number c.in-Some.child.low.now c.in-Some.child.high.now _ g.first b _ _ c.dump_node-m.ensures,
      later-sound c.args.store.now c.args.level c.in-Some.child.number c.in-Some.child.low.now _ _ _ c.args.here.now i.3 g.first,
    )

pub dump_children-returns : goal.dump_children-returns
dump_children-returns t c = descend-end _ _ _ _ _ _ _ _ _ _ _ c.loop-child.invariant.2 c.in-None.ensures.steps

pub dump_node-returns-in_default : goal.dump_node-returns-in_default
dump_node-returns-in_default t c = node-long _ _ _ c.args.above.now c.requires.0 _ _ c.requires.1 _ _ c.requires.2 c.in_default.ensures

pub dump_node-of_node-entries-requires : goal.dump_node-of_node-entries-requires
dump_node-of_node-entries-requires t c = (node-inside c.args.store.now c.args.node.number c.args.level c.requires.0.reads).0

pub dump_node-append_pairs-requires : goal.dump_node-append_pairs-requires
dump_node-append_pairs-requires t c = (
  leaf-values _ _ _ c.args.above.now c.requires.0 _ _ c.requires.1 _ _ c.requires.2 _ c.arrive.new.self c.in-Some.ensures c.of_node-entries.result c.of_node-entries.ensures.lists c.if-level-le1.true,
  leaf_room _ _ _ c.args.above.now c.requires.0 _ _ c.requires.1 _ _ c.requires.2 _ c.arrive.new.self c.in-Some.ensures c.of_node-entries.result c.of_node-entries.ensures.lists c.if-level-le1.true,
  leaf-told c.args.above.now _ _ _ _ c.in-Some.ensures c.args.store.now c.args.level c.args.node.number c.requires.0.reads c.requires.1 c.of_node-entries.result c.of_node-entries.ensures.lists c.if-level-le1.true,
)

pub dump_node-returns-then-level-le1 : goal.dump_node-returns-then-level-le1
dump_node-returns-then-level-le1 t c = leaf-added _ _ _ c.args.above.now c.requires.0 _ _ c.requires.1 _ _ c.requires.2 _ c.arrive.new.self c.in-Some.ensures c.of_node-entries.result c.of_node-entries.ensures.lists c.if-level-le1.true _ _ c.append_pairs.ensures

pub dump_node-dump_children-r-requires : goal.dump_node-dump_children-r-requires
dump_node-dump_children-r-requires t c = let v = c.if-level-le1.false in (
  omega arith,
  (
    branches-ready _ _ _ c.args.above.now c.requires.0 _ _ _ c.arrive.new.self c.in-Some.ensures c.of_node-entries.result (count_among (passing c.arrive.new.self.trail) c.arrive.new.self.prefix (left_of c.of_node-entries.result)) c.of_node-entries.ensures.lists refl (omega arith) _ _ c.enter.new.self c.enter.ensures _ c.among.ensures.pending,
    rw c.among.ensures.high (branches-room _ _ _ c.args.above.now c.requires.0 _ _ c.requires.1 _ _ c.requires.2 _ c.arrive.new.self c.in-Some.ensures c.of_node-entries.result c.of_node-entries.ensures.lists (omega arith) _ _ c.enter.new.self c.enter.ensures _ c.among.ensures.pending _ (part-rest c.in-Some.lifted c.args.node.high.now)),
    branches_sound c.args.above.now _ _ _ c.arrive.new.self c.in-Some.ensures c.args.store.now c.args.level c.args.node.number c.requires.0.reads c.requires.1 c.of_node-entries.result c.of_node-entries.ensures.lists (omega arith) c.enter.new.self _ _ _ (part-rest c.in-Some.lifted c.args.node.low.now) (part-rest c.in-Some.lifted c.args.node.high.now) c.enter.ensures _ c.among.ensures.pending c.among.ensures.high,
  ),
)

pub dump_node-insert_puts-all-requires : goal.dump_node-insert_puts-all-requires
dump_node-insert_puts-all-requires t c = let v = c.if-level-le1.false in
    (own-lifts c.args.above.now c.arrive.new.self c.enter.new.self _ _ _ _ _ _ c.in-Some.ensures c.enter.ensures, puts_open _ _ _ c.args.above.now c.requires.0 _ _ c.requires.1 _ _ c.requires.2 _ c.arrive.new.self c.in-Some.ensures c.of_node-entries.result c.of_node-entries.ensures.lists (omega arith) _ _ c.enter.new.self c.enter.ensures _ c.among.ensures.pending _ (part-rest c.in-Some.lifted c.args.node.high.now) _ _ (rw c.among.ensures.high at c.dump_children-r.ensures))

pub dump_node-merge_rows-requires : goal.dump_node-merge_rows-requires
dump_node-merge_rows-requires t c = let v = c.if-level-le1.false in
    puts-apart _ _ _ c.args.above.now c.requires.0 _ _ c.requires.1 _ _ c.requires.2 _ c.arrive.new.self c.in-Some.ensures c.of_node-entries.result c.of_node-entries.ensures.lists (omega arith) _ _ c.enter.new.self c.enter.ensures _ c.among.ensures.pending _ (part-rest c.in-Some.lifted c.args.node.high.now) _ _ (rw c.among.ensures.high at c.dump_children-r.ensures) _ _ c.insert_puts-all.ensures

pub dump_node-returns : goal.dump_node-returns
dump_node-returns t c = let v = c.if-level-le1.false in
    node-inner _ _ _ c.args.above.now c.requires.0 _ _ c.requires.1 _ _ c.requires.2 _ c.arrive.new.self c.in-Some.ensures c.of_node-entries.result c.of_node-entries.ensures.lists (omega arith) _ _ c.enter.new.self c.enter.ensures _ c.among.ensures.pending _ (part-rest c.in-Some.lifted c.args.node.high.now) _ _ (rw c.among.ensures.high at c.dump_children-r.ensures) _ _ c.insert_puts-all.ensures _ c.merge_rows.auto.area c.merge_rows.ensures
