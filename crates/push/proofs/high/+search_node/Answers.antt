-- `search_node` meets its contract: the search in the child in hand and in those after it is the search in all. Relies on specs/High/Steps.
use Rattle.std.specs.Prelude.{refl, ◌-◌}
use Rattle.image.specs.Prelude.{arith, sym, ap, ◌∙◌}
use Rattle.image.specs.Image.{tree_at, forest_of}
use Rattle.lookup.specs.Look.{node-inside}
use Rattle.node.specs.Spans.{pending_of}
use Rattle.push.specs.Laws.High.{high_in}
use Rattle.push.specs.High.Steps.{high-leaf, node-found, children-usable, node-above, no-more, is-here, not-here, child-usable, rest-usable}
use Rattle.push.proofs.high.+search_node.Goals as goal

pub returns-then-level-le1 : goal.returns-then-level-le1
returns-then-level-le1 t c = sym (high-leaf _ _ _ _ _ _ (omega arith))

pub returns-then-top-num : goal.returns-then-top-num
returns-then-top-num t c = node-found _ _ _ _ c.requires (omega arith) _ _ _ c.common_length.ensures.0 (omega arith) _ refl

pub of_node-entries-requires : goal.of_node-entries-requires
of_node-entries-requires t c = (node-inside _ _ _ c.requires).0

pub loop-child-init : goal.loop-child-init
loop-child-init t c =
    rw c.into_iter-child-iterator.ensures.into_iter_gives (
      children-usable c.args.num _ _ _ c.requires (omega arith) _ _ _ c.common_length.ensures.0 _ c.of_node-entries.ensures.lists _ c.among-child-items.ensures.pending,
      node-above _ _ _ _ c.requires (omega arith) _ _ _ c.common_length.ensures.0 _ c.of_node-entries.ensures.lists _ c.among-child-items.ensures.pending (λ h. omega arith) _ c.among-child-items.ensures.high,
    )

pub search_node-requires : goal.search_node-requires
search_node-requires t c = (omega arith, child-usable _ _ _ _ _ _ c.in-Some.ensures.steps.first c.loop-child.invariant.0)

pub returns-in-Some-search_node : goal.returns-in-Some-search_node
returns-in-Some-search_node t c = is-here _ _ _ _ _ c.loop-child.invariant.1 _ _ _ _ c.in-Some.ensures.steps.first c.in-Some.ensures.steps.ends _ c.search_node.ensures _ c.in-Some-search_node.is

pub loop-child-preserved : goal.loop-child-preserved
loop-child-preserved t c = (
  rest-usable _ _ _ _ _ _ c.in-Some.ensures.steps.first c.loop-child.invariant.0,
  ap (λ h. high_in c.args.num (forest_of (λ j. tree_at (c.args.level - 1) c.args.store.now j) (pending_of c.next.new.self)) h) c.in-Some.ensures.steps.keeps
      ∙ not-here _ _ _ _ _ c.loop-child.invariant.1 _ _ _ _ c.in-Some.ensures.steps.first c.in-Some.ensures.steps.ends _ c.search_node.ensures c.in_default.is,
)

pub returns : goal.returns
returns t c = no-more _ _ _ _ _ c.loop-child.invariant.1 c.in-None.ensures.steps
