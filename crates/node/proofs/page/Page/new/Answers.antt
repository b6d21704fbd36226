-- `new` meets its contract. Relies on specs/Content.
use Rattle.laws.specs.Page.{zeros_of}
use Rattle.node.specs.Content.{content-none, holds-none}
use Rattle.node.proofs.page.Page.new.Goals as goal

pub invariant_of-result : goal.invariant_of-result
unfolding zeros_of
invariant_of-result c = holds-none

pub returns : goal.returns
returns c = content-none _
