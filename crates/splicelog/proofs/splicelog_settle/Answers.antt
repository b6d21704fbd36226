-- `splicelog_settle` meets its contract. Relies on specs/Words.
use Rattle.splicelog.specs.Words.{number-meets}
use Rattle.splicelog.proofs.splicelog_settle.Goals as goal

pub returns : goal.returns
returns c = number-meets _ _ _ _ _ _ c.settle.ensures c.outcome_number.ensures.0
