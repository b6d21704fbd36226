-- `edit::clear` meets its contract: questions 1 and 2, its fit part, the work area zeroed. Relies on questions' laws.
use Rattle.questions.specs.Callers.{to_act}
use Rattle.questions.specs.Asked.{asked-fit, refused-meets}
use Rattle.questions.specs.Acted.{passed, acted-long, accepted-meets, refused-left}
use Rattle.edit.specs.Room.{alone-marked}
use Rattle.std.specs.Prelude.{refl}
use Rattle.edit.proofs.clear.Goals as goal

pub returns-in_err-ask : goal.returns-in_err-ask
returns-in_err-ask c = refused-meets _ _ _ _ c.in_err-ask.ensures _ c.from_residual.ensures.1 _ to_act

pub clear_fit-requires : goal.clear_fit-requires
clear_fit-requires c = let f = asked-fit _ _ _ _ c.in_ok-ask.ensures in (passed _ _ _ _ f, alone-marked _ _ c.alone.result f.holds.reached c.alone.ensures)

pub returns-in_err-clear_fit : goal.returns-in_err-clear_fit
returns-in_err-clear_fit c = refused-left c.args.store.now _ _ c.args.work.now _ _ c.in_err-clear_fit.ensures _ c.from_residual-in_err-clear_fit.ensures.1

pub zero_area-requires : goal.zero_area-requires
zero_area-requires c = acted-long c.args.store.now _ _ _ c.args.work.now _ (passed _ _ _ _ (asked-fit _ _ _ _ c.in_ok-ask.ensures)) c.in_ok-clear_fit.ensures

pub returns : goal.returns
returns c = accepted-meets c.args.store.now _ _ c.args.work.now _ (passed _ _ _ _ (asked-fit _ _ _ _ c.in_ok-ask.ensures)) c.in_ok-clear_fit.ensures _ _ refl c.zero_area.ensures
