-- `query::same_paths` meets its contract: the counts differ, or inclusion decides (specs/SameSteps). Assumes nothing.
use Rattle.image.specs.Prelude.{arith}
use Rattle.lookup.specs.Root.{long-enough}
use Rattle.query.specs.SameSteps.{counts-differ, counts-agree}
use Rattle.query.proofs.same_paths.Goals as goal

pub read_live-live-requires : goal.read_live-live-requires
read_live-live-requires c = let l = long-enough c.args.store.now c.requires.0 in omega arith

pub read_live-others-requires : goal.read_live-others-requires
read_live-others-requires c = let l = long-enough c.args.other.now c.requires.1 in omega arith

pub returns-then-live-others : goal.returns-then-live-others
returns-then-live-others c = counts-differ c.args.store.now c.args.other.now c.requires.0 c.requires.1 c.read_live-live.result c.read_live-others.result c.read_live-live.ensures.0 c.read_live-others.ensures.0 (λ h. omega arith)

pub returns : goal.returns
returns c = counts-agree c.args.store.now c.args.other.now c.requires.0 c.requires.1 c.read_live-live.result c.read_live-others.result c.read_live-live.ensures.0 c.read_live-others.ensures.0 (omega arith) _ c.is_included.ensures
