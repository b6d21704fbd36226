-- `count_numbers` meets its contract.
-- Relies on specs/Build/CountSteps.
use Rattle.packed.specs.Build.CountSteps.{count-first, count_next, count-last}
use Rattle.image.specs.Prelude.{arith}
use Rattle.packed.proofs.count_numbers.Goals as goal

pub loop-k-init : goal.loop-k-init
loop-k-init c = count-first _ _

pub loop-k-preserved : goal.loop-k-preserved
loop-k-preserved c = count_next _ _ _ (omega arith) c.loop-k.invariant

pub returns : goal.returns
returns c = count-last _ _ _ _ (omega arith) (omega arith) c.loop-k.invariant
