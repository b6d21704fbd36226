-- `maintain::tidy` meets its contract: a refusal by questions' laws, an accepted call by its fit part.
use Rattle.questions.specs.Callers.{to_act}
use Rattle.questions.specs.Asked.{asked-fit, refused-meets}
use Rattle.questions.specs.Acted.{passed}
use Rattle.maintain.proofs.tidy.Goals as goal

pub tidy_fit-requires : goal.tidy_fit-requires
tidy_fit-requires c = passed _ _ _ _ (asked-fit _ _ _ _ c.in_ok-ask.ensures)

pub returns-in_err-ask : goal.returns-in_err-ask
returns-in_err-ask c = refused-meets _ _ _ _ c.in_err-ask.ensures _ c.from_residual.ensures.1 _ to_act
