-- `listing::advance` meets its contract: an accepted next moves the place on, a refused one leaves it. Relies on: Moves.
use Rattle.std.proofs.Common.{rules}
use Rattle.std.proofs.lemmas.Result.{err_from_is_err_and}
use Rattle.listing.specs.Moves.{moves-on, stays_put}
use Rattle.listing.proofs.advance.Goals as goal

pub returns-in_err-len : goal.returns-in_err-len
returns-in_err-len c =
    let p = err_from_is_err_and c.from_residual.result c.from_residual.ensures.1 in
    rw (p.1, p.2) (stays_put _ _ _ (search rules) _ _ c.next_after.ensures _ c.in_err-len.was)

pub returns : goal.returns
returns c = moves-on _ _ _ (search rules) _ _ c.next_after.ensures _ c.in_ok-len.was
