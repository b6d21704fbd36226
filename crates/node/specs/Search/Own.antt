-- The child that owns a rest.
use Rattle.std.specs.Prelude.{ℕ, ◌≡◌, refl, List, [], ◌∷◌, Bool, true, false, cond, length}
use Rattle.std.specs.Prelude as found
use Rattle.image.specs.Prelude.{Option, none, some}
use Rattle.image.specs.Path.{owns}
use Rattle.image.specs.Entry as defined
use Rattle.image.specs.Image as image
use Rattle.laws.specs.Reading.Relative.{branch_high}
use Rattle.node.specs.declared.branches.Branch as span

abbrev pub branch : ℕ → List ℕ → image.Branch
branch i s = record { number = i; pivot = s }

-- the children in front of the other entries
unfoldable pub branches_among : List defined.Entry → List image.Branch
branches_among [] = []
branches_among (defined.pair k v ∷ es) = []
branches_among (defined.child i k ∷ es) = branch i k ∷ branches_among es
branches_among (defined.message m ∷ es) = []

-- a child with its two pivots
pub record Range : Type 0 where
  pub number : ℕ
  pub low : List ℕ
  pub high : List ℕ

abbrev pub range : ℕ → List ℕ → List ℕ → Range
range i a b = record { number = i; low = a; high = b }

unfoldable pub owner_of : List image.Branch → List ℕ → List ℕ → Option Range
owner_of [] hi rest = none
owner_of (k ∷ ks) hi rest = cond (owns k.pivot (branch_high hi ks) rest) (some (range k.number k.pivot (branch_high hi ks))) (owner_of ks hi rest)

-- an owner found
abbrev pub owner_is : found.Option span.Branch → Option Range
owner_is found.None = none
owner_is (found.Some b) = some (range b.number b.low.now b.high.now)
