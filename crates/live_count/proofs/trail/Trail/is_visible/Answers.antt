-- `is_visible` meets its contract: the nodes one by one, up to the first that has a message on the path. Relies on specs/Steps.
use Rattle.std.specs.Prelude.{◌-◌}
use Rattle.image.specs.Prelude.{arith}
use Rattle.live_count.specs.Steps.{hidden, seen}
use Rattle.live_count.proofs.trail.Trail.is_visible.Goals as goal

pub returns-then-not-none_covers : goal.returns-then-not-none_covers
returns-then-not-none_covers c = let h = c.loop-depth.auto.depth in let t = c.loop-depth-test.true in
    hidden _ _ (c.loop-depth.depth - 1) _ c.none_covers.result c.nodes-nodes.result.now c.nodes-nodes.ensures (omega arith) c.none_covers.ensures c.if-not-none_covers.true

pub returns : goal.returns
returns c = seen _ _ c.loop-depth.depth c.nodes-nodes.result.now c.nodes-nodes.ensures c.requires.0 (omega arith) c.loop-depth.invariant
