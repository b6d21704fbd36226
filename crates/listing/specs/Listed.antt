-- A whole listing: accepted steps one after the other on one store, with the paths that they give. Relies on: the contract of a step.
use Rattle.std.specs.Prelude.{ℕ, List, [], ◌∷◌}
use Rattle.image.specs.Table.{Row}
use Rattle.image.specs.declared.Listing.{Listing}
use Rattle.image.specs.Listing.{last_path, Steps}

-- from the place p, steps that are answered 0 give the paths ks, and leave the last place
pub data Gives (s below : List ℕ) : Listing → List (List ℕ) → Listing → Type 0 where
  stop : {p : Listing} → Gives s below p [] p
  step : {p p' p'' : Listing} {ks : List (List ℕ)} → Steps s below p 0 p' → Gives s below p' ks p'' → Gives s below p (last_path p' ∷ ks) p''

-- the paths of a table, in its order
unfoldable pub paths_of : List Row → List (List ℕ)
paths_of [] = []
paths_of (r ∷ t) = r.key ∷ paths_of t
