-- `equal` meets its contract: its loop keeps an invariant. Relies on specs/Compare.
use Rattle.std.proofs.Common.{rules}
use Rattle.image.specs.Prelude.{arith}
use Rattle.octets.specs.Compare.{not_equal, same-past, same_whole, same-longer, same_differs}
use Rattle.octets.proofs.equal.Goals as goal

pub returns-then-a-b : goal.returns-then-a-b
returns-then-a-b c = not_equal _ _ (λ h. omega arith)

pub loop-i-init : goal.loop-i-init
loop-i-init c = (omega arith, omega arith, search (rules, same-past))

pub returns-then-a-i : goal.returns-then-a-i
returns-then-a-i c = same_differs _ _ _ (omega arith) (omega arith) c.if-a-i.true

pub loop-i-preserved : goal.loop-i-preserved
loop-i-preserved c = (omega arith, omega arith, search (rules, same-longer))

pub returns : goal.returns
returns c = search (rules, same_whole)
