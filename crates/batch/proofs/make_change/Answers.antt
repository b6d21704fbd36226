-- `batch::make_change` meets its contract, change by change. Relies on specs/Steps.
use Rattle.batch.specs.Steps.{served-act, served-meets, served-keeps}
use Rattle.batch.proofs.make_change.Goals as goal

pub put_fit-requires : goal.put_fit-requires
put_fit-requires c = (c.requires.passed, tt)

pub drop_fit-requires : goal.drop_fit-requires
drop_fit-requires c = (c.requires.passed, tt)

pub clear_fit-requires : goal.clear_fit-requires
clear_fit-requires c = (c.requires.passed, tt)

pub settle_fit-requires : goal.settle_fit-requires
settle_fit-requires c = (c.requires.passed, c.mark_nodes-quiet-in-Settle.ensures.1)

pub returns-in-Put : goal.returns-in-Put
returns-in-Put c = rw c.in-Put.is (served-act _ _ _ _ c.requires _ _ c.put_fit.ensures)

pub returns-in-Drop : goal.returns-in-Drop
returns-in-Drop c = rw c.in-Drop.is (served-act _ _ _ _ c.requires _ _ c.drop_fit.ensures)

pub returns-in-Clear : goal.returns-in-Clear
returns-in-Clear c = rw c.in-Clear.is (served-act _ _ _ _ c.requires _ _ c.clear_fit.ensures)

pub returns-in-Move : goal.returns-in-Move
returns-in-Move c = rw c.in-Move.is (served-meets _ _ _ _ c.requires _ _ c.move_fit.ensures)

pub returns-in-Settle : goal.returns-in-Settle
returns-in-Settle c = rw c.in-Settle.is (served-meets _ _ _ _ c.requires _ _ c.settle_fit.ensures)

pub returns-in-Tidy : goal.returns-in-Tidy
returns-in-Tidy c = rw c.in-Tidy.is (served-meets _ _ _ _ c.requires _ _ c.tidy_fit.ensures)

pub returns-in-Flush : goal.returns-in-Flush
returns-in-Flush c = rw c.in-Flush.is (served-keeps _ _ _ _ c.requires _ _ _ c.flush_fit.ensures)

pub returns-in-Heal : goal.returns-in-Heal
returns-in-Heal c = rw c.in-Heal.is (served-keeps _ _ _ _ c.requires _ _ _ c.heal_fit.ensures)
