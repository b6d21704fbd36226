-- `maintain::settle` meets its contract: a refusal by questions' laws, an accepted call by its fit part.
use Rattle.questions.specs.Callers.{to_act}
use Rattle.questions.specs.Asked.{asked-fit, refused-meets}
use Rattle.questions.specs.Acted.{passed}
use Rattle.tree_check.specs.Callers.{messages-settled}
use Rattle.maintain.proofs.settle.Goals as goal

pub settle_fit-requires : goal.settle_fit-requires
settle_fit-requires c = let f = asked-fit _ _ _ _ c.in_ok-tally.ensures in (passed _ _ _ _ f, messages-settled _ _ _ f.holds)

pub returns-in_err-tally : goal.returns-in_err-tally
returns-in_err-tally c = refused-meets _ _ _ _ c.in_err-tally.ensures _ c.from_residual.ensures.1 _ to_act
