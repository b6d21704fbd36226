-- `weigh_entry` meets its contract, by the kind of the entry. Relies on specs/WeighSteps.
use Rattle.image.specs.Prelude.{arith}
use Rattle.node.specs.Writer.{pairing-takes}
use Rattle.merge.specs.WeighSteps.{pair_weighs, child-long, child-big, child-weighs, message-weighs}
use Rattle.merge.proofs.weigh.weigh_entry.Goals as goal

pub overflow_add-result-in-Pair-2 : goal.overflow_add-result-in-Pair-2
overflow_add-result-in-Pair-2 c = let z = pairing-takes _ _ _ c.in-Pair.is in omega arith

pub returns-then-len-gt-PIVOT_LIMIT : goal.returns-then-len-gt-PIVOT_LIMIT
returns-then-len-gt-PIVOT_LIMIT c = child-long _ _ _ _ c.in-Child.is (omega arith)

pub returns-then-number-gt65535 : goal.returns-then-number-gt65535
returns-then-number-gt65535 c = child-big _ _ _ _ c.in-Child.is (omega arith) (omega arith)

pub returns-in-Pair : goal.returns-in-Pair
returns-in-Pair c = pair_weighs _ _ _ _ c.in-Pair.is

pub returns-else-number-gt65535 : goal.returns-else-number-gt65535
returns-else-number-gt65535 c = child-weighs _ _ _ _ c.in-Child.is (omega arith) (omega arith)

pub returns-in-Message : goal.returns-in-Message
returns-in-Message c = message-weighs _ _ _ c.in-Message.is
