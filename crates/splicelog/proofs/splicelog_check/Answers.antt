-- `splicelog_check` meets its contract. Relies on specs/Words.
use Rattle.splicelog.specs.Words.{check-small, check-meets}
use Rattle.splicelog.proofs.splicelog_check.Goals as goal

pub answer_word-requires : goal.answer_word-requires
answer_word-requires c = check-small _ c.check.ensures.few

pub returns : goal.returns
returns c = check-meets _ _ _ c.check.ensures.check_meets c.answer_word.ensures
