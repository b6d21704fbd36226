-- Two neighbouring children merged where they would fit in one node; and that again and again until none do.
use Rattle.std.specs.Prelude.{ℕ, zero, suc, ◌≡◌, List, [], ◌∷◌, ◌++◌, Bool, ◌&&◌, cond}
use Rattle.image.specs.Image.{Tree, Forest, end, tree}
use Rattle.image.specs.Meaning.{high_of}
use Rattle.image.specs.Upkeep.{reachable, reachable_in, would_fit}
use Rattle.laws.specs.Upkeep.Kept.{Kept, kept_refl, kept_append}
use Rattle.laws.specs.Page.{number_of}
use Rattle.laws.specs.Upkeep.Merge.{same_kind, merged}

-- the test: of one kind, no message, and one node holds both
unfoldable pub joins : Tree → Tree → List ℕ → List ℕ → List ℕ → Bool
joins t u lo mid hi = same_kind t u && would_fit t u lo mid hi

-- the children k and k + 1 merged, where they pass the test
unfoldable pub join_at : ℕ → Forest → List ℕ → List ℕ → Forest
join_at k end lifted hi = end
join_at k (tree s t end) lifted hi = tree s t end
join_at zero (tree s t (tree q u f)) lifted hi =
    cond (joins t u (lifted ++ s) (lifted ++ q) (high_of lifted hi f))
    (tree s (merged t u (lifted ++ s) (lifted ++ q) (high_of lifted hi f)) f) (tree s t (tree q u f))
join_at (suc k) (tree s t (tree q u f)) lifted hi = tree s t (join_at k (tree q u f) lifted hi)

-- the first pair that passes the test; the last child where there is none
unfoldable pub first_pair : Forest → List ℕ → List ℕ → ℕ
first_pair end lifted hi = 0
first_pair (tree s t end) lifted hi = 0
first_pair (tree s t (tree q u f)) lifted hi =
    cond (joins t u (lifted ++ s) (lifted ++ q) (high_of lifted hi f)) 0 (suc (first_pair (tree q u f) lifted hi))

-- merged at most this many times
unfoldable pub mended : ℕ → Forest → List ℕ → List ℕ → Forest
mended zero f lifted hi = f
mended (suc n) f lifted hi = mended n (join_at (first_pair f lifted hi) f lifted hi) lifted hi

unfoldable pub branch_count : Forest → ℕ
branch_count end = 0
branch_count (tree s t f) = suc (branch_count f)

-- as often as there are children: the whole of a heal
unfoldable pub healing : Forest → List ℕ → List ℕ → Forest
healing f lifted hi = mended (branch_count f) f lifted hi

-- the numbers of the children
unfoldable pub heads : Forest → List ℕ
heads end = []
heads (tree s t f) = number_of t ∷ heads f

-- places: a child that stays, before children that are kept
pub later-kept : (among : ℕ → Bool) (s : List ℕ) (t : Tree) (f g : Forest) (lifted hi : List ℕ) (level : ℕ) → high_of lifted hi g ≡ high_of lifted hi f
    → Kept among (reachable_in f level lifted hi) (reachable_in g level lifted hi)
    → Kept among (reachable_in (tree s t f) level lifted hi) (reachable_in (tree s t g) level lifted hi)
unfolding reachable_in
later-kept among s t f g lifted hi level e k = rw e (kept_append among (kept_refl among (reachable t level (lifted ++ s) (high_of lifted hi f))) k)
