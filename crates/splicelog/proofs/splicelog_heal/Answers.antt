-- `splicelog_heal` meets its contract. Relies on specs/Words.
use Rattle.splicelog.specs.Words.{number-meets}
use Rattle.splicelog.proofs.splicelog_heal.Goals as goal

pub returns : goal.returns
returns c = number-meets _ _ _ _ _ _ c.heal.ensures c.outcome_number.ensures.0
