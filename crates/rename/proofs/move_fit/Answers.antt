-- `rename::move_fit` meets its contract, by the answer of its questions. Relies on specs/Apply and specs/Going/GoingSteps.
use Rattle.rename.specs.Going.GoingSteps.{is-fit}
use Rattle.rename.specs.Apply.{refused, area-long, stays, goes}
use Rattle.std.specs.Prelude.{refl}
use Rattle.rename.proofs.move_fit.Goals as goal

pub returns-in_err-going : goal.returns-in_err-going
returns-in_err-going c = refused c.args.store.now c.args.work.now c.args.from.now c.args.to.now _ (is-fit c.args.store.now c.args.work.now c.args.from.now c.args.to.now c.requires.0 _ c.in_err-going.ensures) _ c.from_residual.ensures.1

pub zero_area-requires : goal.zero_area-requires
zero_area-requires c = area-long c.args.store.now c.args.work.now c.args.from.now c.args.to.now _ (is-fit c.args.store.now c.args.work.now c.args.from.now c.args.to.now c.requires.0 _ c.in_ok-going.ensures) c.in-Stays.is

pub apply_move-requires : goal.apply_move-requires
apply_move-requires c = goes c.args.store.now c.args.work.now c.args.from.now c.args.to.now _ (is-fit c.args.store.now c.args.work.now c.args.from.now c.args.to.now c.requires.0 _ c.in_ok-going.ensures) c.in-Goes.is _ _ c.requires.1 c.requires.2

pub returns-in-Stays : goal.returns-in-Stays
returns-in-Stays c = stays c.args.store.now c.args.work.now c.args.from.now c.args.to.now _ (is-fit c.args.store.now c.args.work.now c.args.from.now c.args.to.now c.requires.0 _ c.in_ok-going.ensures) c.in-Stays.is _ _ refl c.zero_area.ensures
