-- `listing::start` meets its contract: a length of 0 is of the empty path.
use Rattle.std.specs.Prelude.{refl}
use Rattle.image.specs.Listing.{last_path}
use Rattle.listing.proofs.start.Goals as goal

pub returns : goal.returns
unfolding last_path
returns c = refl
