-- `write_outcome` meets its contract. Relies on specs/Steps.
use Rattle.requests.specs.Steps.{outcome-written}
use Rattle.requests.proofs.write_outcome.Goals as goal

pub returns : goal.returns
returns c = outcome-written _ _ _ _ _ c.outcome_number.ensures.0 c.write_head.ensures
