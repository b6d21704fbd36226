-- `maintain::settle_fit` meets its contract, by specs/Steps.
use Rattle.maintain.specs.Steps.{settled-done}
use Rattle.maintain.proofs.settle_fit.Goals as goal

pub returns : goal.returns
returns c = settled-done _ _ c.args.work.now _ c.requires.0 _ c.requires.1 c.rebuild_unless.ensures
