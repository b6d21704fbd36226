-- The loop of `walk_node`: the paths of the children that are left, and those of the messages, are not seen yet; the level falls from a node to its
-- children. Relies on specs/Walk and specs/Visited.
use Rattle.std.specs.Prelude.{◌≡◌, ◌-◌}
use Rattle.image.specs.Image.{tree_at}
use Rattle.laws.specs.Reading.SeekHere.{under, keys_here}
use Rattle.node.specs.Lent.{left_of}
use Rattle.node.specs.Spans.{pending_of}
use Rattle.successor.specs.Walk.{run_paths, BranchesReady}
use Rattle.successor.specs.Visited.{Visited}
use Rattle.successor.proofs.walk.+walk_node.Given as goal

abbrev pub decreases-walk_node : goal.decreases-walk_node
decreases-walk_node g l = l.level

abbrev pub invariant-loop-child : goal.invariant-loop-child
invariant-loop-child g l = record {
  ready : BranchesReady l.store (l.level - 1) l.pre l.hi (pending_of l.child-iterator);
  ends : l.child-iterator.high.now ≡ l.hi;
  seen : Visited g.V.Visitor.walks l.fn.visitor l.visitor (under l.pre (run_paths (l.level - 1) l.store l.hi (pending_of l.child-iterator) (left_of l.entries))) (under l.pre (keys_here (tree_at l.level l.store l.num) l.hi));
}
