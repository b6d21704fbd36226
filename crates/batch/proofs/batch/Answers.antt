-- `batch::batch` meets its contract: questions 1 and 2, the work area zeroed, then turn after turn. Relies on specs/Turns.
use Rattle.batch.specs.Turns.{area-long, fresh, refused, accepted}
use Rattle.std.specs.Prelude.{refl}
use Rattle.batch.proofs.batch.Goals as goal

pub zero_area-requires : goal.zero_area-requires
zero_area-requires c = area-long c.args.store.now c.args.work.now c.args.calls.now c.args.answers.now _ _ c.ask.ensures _ c.in-Ok.is

pub run-requires : goal.run-requires
run-requires c = fresh c.args.store.now c.args.work.now c.args.calls.now c.args.answers.now _ _ c.ask.ensures _ c.in-Ok.is _ _ refl c.zero_area.ensures

pub returns-in-Err : goal.returns-in-Err
returns-in-Err c = refused c.args.store.now c.args.work.now c.args.calls.now c.args.answers.now _ _ c.ask.ensures _ c.in-Err.is _ c.from.ensures

pub returns-in-Ok : goal.returns-in-Ok
returns-in-Ok c = accepted c.args.store.now c.args.work.now c.args.calls.now c.args.answers.now _ _ c.ask.ensures _ c.in-Ok.is _ _ refl c.zero_area.ensures _ _ _ _ c.run.ensures
