-- `listing::next_after` meets its contract: next is handed the place's path. Relies on: next's contract, and Moves for each way out.
use Rattle.std.proofs.Common.{rules}
use Rattle.std.specs.Prelude.{◌≡◌, length}
use Rattle.image.specs.Prelude.{arith}
use Rattle.listing.specs.Moves.{after-over, after-fits}
use Rattle.listing.proofs.next_after.Goals as goal

pub returns-then-len-gt-PATH_LIMIT : goal.returns-then-len-gt-PATH_LIMIT
returns-then-len-gt-PATH_LIMIT c = after-over _ _ c.args.place _ _ (omega arith) c.next.ensures.meets

pub slice_bounds-next-end-2 : goal.slice_bounds-next-end-2
slice_bounds-next-end-2 c = let h : length c.args.place.last ≡ 64 = search rules in omega arith

pub returns : goal.returns
returns c = after-fits _ _ c.args.place _ _ (omega arith) c.next-2.ensures.meets
