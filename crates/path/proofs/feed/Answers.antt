-- `feed` meets its contract: its loop keeps an invariant. Relies on specs/Fed.
use Rattle.path.specs.Fed.{feed-step, feed-end}
use Rattle.image.specs.Prelude.{arith}
use Rattle.path.proofs.feed.Goals as goal

pub loop-b-preserved : goal.loop-b-preserved
loop-b-preserved c = feed-step _ c.args.s.now c.loop-b.b-index _ _ (omega arith) c.fed-sh.ensures c.loop-b.invariant

pub returns : goal.returns
returns c = feed-end _ c.args.s.now c.loop-b.b-index _ (omega arith) c.loop-b.invariant
