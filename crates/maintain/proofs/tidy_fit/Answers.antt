-- `maintain::tidy_fit` meets its contract, by specs/Steps.
use Rattle.maintain.specs.Steps.{tidied-done}
use Rattle.maintain.proofs.tidy_fit.Goals as goal

pub returns : goal.returns
returns c = tidied-done _ _ c.args.work.now _ c.requires c.rebuild_unless.ensures
