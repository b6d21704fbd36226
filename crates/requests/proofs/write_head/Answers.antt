-- `write_head` meets its contract. Relies on specs/Steps.
use Rattle.std.proofs.Common.{rules}
use Rattle.requests.specs.Steps.{head-written}
use Rattle.requests.proofs.write_head.Goals as goal

pub returns : goal.returns
returns c = search (rules, head-written)
