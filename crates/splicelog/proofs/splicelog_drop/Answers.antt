-- `splicelog_drop` meets its contract. Relies on specs/Words.
use Rattle.splicelog.specs.Words.{number-meets}
use Rattle.splicelog.proofs.splicelog_drop.Goals as goal

pub returns : goal.returns
returns c = number-meets _ _ _ _ _ _ c.drop.ensures c.outcome_number.ensures.0
