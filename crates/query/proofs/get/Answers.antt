-- `get` meets its contract. Relies on specs/Asked, and on specs/CheckSteps for what questions 1 and 2 tell.
use Rattle.std.proofs.lemmas.Result.{err_from_is_err_and}
use Rattle.image.specs.Calls.{get}
use Rattle.query.specs.Asked.{unfit-store, refused-short}
use Rattle.query.specs.CheckSteps.{fit-store}
use Rattle.query.proofs.get.Goals as goal

pub returns-in_err-judge_store : goal.returns-in_err-judge_store
returns-in_err-judge_store c =
    let p = err_from_is_err_and c.from_residual.result c.from_residual.ensures.1 in
    rw (p.1, p.2) (record { meets = unfit-store c.args.store.now (get c.args.path.now) c.args.buffer.now _ c.in_err-judge_store.ensures; short = refused-short _ _ })

pub get_fit-requires : goal.get_fit-requires
get_fit-requires c = fit-store _ c.in_ok-judge_store.ensures
