-- `maintain::heal` meets its contract: a refusal by questions' laws, an accepted call by its fit part.
use Rattle.questions.specs.Callers.{to_keep}
use Rattle.questions.specs.Asked.{asked-fit, refused-meets}
use Rattle.questions.specs.Acted.{passed}
use Rattle.maintain.proofs.heal.Goals as goal

pub heal_fit-requires : goal.heal_fit-requires
heal_fit-requires c = let f = asked-fit _ _ _ _ c.in_ok-ask.ensures in (passed _ _ _ _ f, f.holds.reached)

pub returns-in_err-ask : goal.returns-in_err-ask
returns-in_err-ask c = refused-meets _ _ _ _ c.in_err-ask.ensures _ c.from_residual.ensures.1 _ to_keep
