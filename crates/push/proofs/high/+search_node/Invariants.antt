-- The loop of `search_node`: the search in the children left is the search in the node. The measure is the level, which falls from a node to its
-- children. Relies on specs/Laws/High.
use Rattle.std.specs.Prelude.{true, ◌≡◌, length, ◌-◌}
use Rattle.image.specs.Image.{tree_at, nodes_of, forest_of}
use Rattle.laws.specs.Reading.Relative.{usable_in}
use Rattle.node.specs.Spans.{pending_of}
use Rattle.push.specs.Laws.High.{high_here, high_in}
use Rattle.push.proofs.high.+search_node.Given as goal

abbrev pub decreases-search_node : goal.decreases-search_node
decreases-search_node l = l.level

abbrev pub invariant-loop-child : goal.invariant-loop-child
invariant-loop-child l =
    (usable_in (nodes_of (length l.store)) (forest_of (λ j. tree_at (l.level - 1) l.store j) (pending_of l.child-iterator)) ≡ true)
    × (high_in l.num (forest_of (λ j. tree_at (l.level - 1) l.store j) (pending_of l.child-iterator)) l.child-iterator.high.now
    ≡ high_here l.num (tree_at l.level l.store l.fn.top.number) l.fn.top.low.now l.fn.top.high.now)
