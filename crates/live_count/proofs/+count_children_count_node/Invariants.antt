-- The loop of `count_children`: the total so far and the count of the children left make the count of all. The measure of the cycle is the level,
-- which falls from a node to its children. Relies on specs/Live, specs/Walk and specs/Noted.
use Rattle.std.specs.Prelude.{◌≤◌, ◌+◌, ◌*◌, length, ◌≡◌, true}
use Rattle.image.specs.Image.{tree_at, nodes_of, forest_of}
use Rattle.laws.specs.Reading.Relative.{usable_in}
use Rattle.node.specs.Spans.{pending_of}
use Rattle.live_count.specs.Live.{live_branches}
use Rattle.octets.specs.Cap.{cap}
use Rattle.live_count.specs.Walk.{passing}
use Rattle.live_count.specs.Noted.{SoundBranches}
use Rattle.live_count.proofs.+count_children_count_node.Given as goal

abbrev pub decreases-count_children : goal.decreases-count_children
decreases-count_children l = l.level * 2 + 1

abbrev pub decreases-count_node : goal.decreases-count_node
decreases-count_node l = l.level * 2

abbrev pub invariant-count_children-loop-child : goal.invariant-count_children-loop-child
invariant-count_children-loop-child l = (l.total ≤ 65535) × (l.child-iterator.high.now ≡ l.fn.children.high.now)
    × (usable_in (nodes_of (length l.store)) (forest_of (λ j. tree_at l.level l.store j) (pending_of l.child-iterator)) ≡ true)
    × (cap (l.total + live_branches (forest_of (λ j. tree_at l.level l.store j) (pending_of l.child-iterator)) (passing l.here.trail) l.here.prefix l.fn.children.high.now)
    ≡ cap (live_branches (forest_of (λ j. tree_at l.level l.store j) (pending_of l.fn.children)) (passing l.here.trail) l.here.prefix l.fn.children.high.now))
    × SoundBranches l.store l.level (pending_of l.child-iterator) l.fn.children.high.now l.here
