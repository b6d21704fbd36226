-- The loop of `dump_children`: the rows so far, and those of the children left, make all. The measure of the cycle is the level, which falls from a
-- node to its children. Relies on specs/NodeSteps.
use Rattle.std.specs.Prelude.{true, ◌*◌, ◌+◌, ◌≡◌, ◌++◌, length}
use Rattle.image.specs.Image.{tree_at, nodes_of, forest_of}
use Rattle.image.specs.Meaning.{rows_in}
use Rattle.laws.specs.Reading.Relative.{usable_in}
use Rattle.laws.specs.Filter.{keep}
use Rattle.node.specs.Spans.{pending_of}
use Rattle.live_count.specs.Noted.{SoundBranches}
use Rattle.live_count.specs.Walk.{passing}
use Rattle.dump.specs.NodeSteps.{Descending}
use Rattle.dump.proofs.+dump_children_dump_node.Given as goal

abbrev pub decreases-dump_children : goal.decreases-dump_children
decreases-dump_children l = l.level * 2 + 1

abbrev pub decreases-dump_node : goal.decreases-dump_node
decreases-dump_node l = l.level * 2

abbrev pub invariant-dump_children-loop-child : goal.invariant-dump_children-loop-child
invariant-dump_children-loop-child l = (l.child-iterator.high.now ≡ l.fn.children.high.now)
    × (usable_in (nodes_of (length l.store)) (forest_of (λ j. tree_at l.level l.store j) (pending_of l.child-iterator)) ≡ true)
    × Descending l.store l.level l.here.prefix l.fn.children.high.now (passing l.here.trail) l.first l.fn.area l.area l.m (pending_of l.child-iterator)
    (keep (passing l.here.trail) (rows_in (forest_of (λ j. tree_at l.level l.store j) (pending_of l.fn.children)) l.here.prefix (l.here.prefix ++ l.fn.children.high.now)))
    × SoundBranches l.store l.level (pending_of l.child-iterator) l.fn.children.high.now l.here
