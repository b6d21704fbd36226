-- `note_trail` meets its contract: the nodes one by one, from the last on. Relies on specs/NotedSteps.
use Rattle.std.specs.Prelude.{refl, get_or, ◌-◌}
use Rattle.image.specs.Prelude.{arith}
use Rattle.lookup.specs.Look.{part-rest}
use Rattle.live_count.specs.NotedSteps.{trail-on, trail-told, trail-noted}
use Rattle.live_count.proofs.position.Position.note_trail.Goals as goal

pub loop-depth-preserved : goal.loop-depth-preserved
loop-depth-preserved c = let n = c.nodes-nodes.result.now in let i = c.loop-depth.depth - 1 in let h = c.loop-depth.auto.depth in let t = c.loop-depth-test.true in
    trail-on _ _ _ _ n i c.loop-depth.depth _ _ _ _ (omega arith) (omega arith) (part-rest (get_or n i _).lift c.as_slice-prefix.result.now) c.loop-depth.invariant c.add_messages.ensures

pub returns : goal.returns
returns c = trail-noted c.args.self.now _ _ _ refl refl
    (trail-told c.args.self.now _ _ c.nodes-nodes.result.now c.loop-depth.depth _ _ c.args.self.now.lifted c.clear.ensures c.nodes-nodes.ensures (omega arith) (rw c.as_slice-prefix.ensures.held at c.loop-depth.invariant))
