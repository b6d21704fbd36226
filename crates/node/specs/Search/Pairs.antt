-- The pair of a leaf on a rest.
use Rattle.std.specs.Prelude.{ℕ, List, [], ◌∷◌, cond}
use Rattle.image.specs.Prelude.{Option, none, some}
use Rattle.image.specs.Bytes.{same}
use Rattle.image.specs.Entry as defined

-- the first pair on a rest, in front of anything else
unfoldable pub find_among : List defined.Entry → List ℕ → Option (List ℕ)
find_among [] rest = none
find_among (defined.pair k v ∷ es) rest = cond (same rest k) (some v) (find_among es rest)
find_among (defined.child i k ∷ es) rest = none
find_among (defined.message m ∷ es) rest = none
