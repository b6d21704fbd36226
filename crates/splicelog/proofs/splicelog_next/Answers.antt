-- `splicelog_next` meets its contract: one law of specs/ for each way out.
use Rattle.splicelog.specs.Words.{word-meets}
use Rattle.splicelog.proofs.splicelog_next.Goals as goal

pub returns : goal.returns
returns c = word-meets _ _ _ _ _ c.next.ensures.meets c.answer_word.ensures
