-- `rename::move_paths` meets its contract: a refusal by questions' laws, else by its fit part.
use Rattle.questions.specs.Callers.{to_act}
use Rattle.questions.specs.Asked.{asked-fit, refused-meets}
use Rattle.questions.specs.Acted.{passed}
use Rattle.tree_check.specs.Callers.{messages-settled}
use Rattle.rename.proofs.move_paths.Goals as goal

pub move_fit-requires : goal.move_fit-requires
move_fit-requires c = let f = asked-fit _ _ _ _ c.in_ok-tally.ensures in (passed _ _ _ _ f, f.holds.reached, messages-settled _ _ _ f.holds)

pub returns-in_err-tally : goal.returns-in_err-tally
returns-in_err-tally c = refused-meets _ _ _ _ c.in_err-tally.ensures _ c.from_residual.ensures.1 _ to_act
