-- Where a cut falls among the children of an interior node, and the bytes of the parts' entries. Definitions only: pivots, cut and keys are
-- told without what the node lifts. Relies on node's lists of entries and children.
use Rattle.std.specs.Prelude.{ℕ, ◌+◌, ◌≡◌, List, [], ◌∷◌, ◌++◌, Bool, cond, drop, get_or, Option, MatchOption}
use Rattle.image.specs.Bytes.{before}
use Rattle.image.specs.Entry as defined
use Rattle.image.specs.Image.{Tree}
use Rattle.image.specs.Image as image
use Rattle.laws.specs.Encode.{bytes_of}
use Rattle.laws.specs.Reading.Relative.{branch_high}
use Rattle.node.specs.declared.branches.Branch.{Branch}
use Rattle.slice.specs.Slicing.SliceWrite.{left_write}

-- the i-th number of a list of free nodes
unfoldable pub fresh_in : List ℕ → ℕ → ℕ
fresh_in free i = get_or free i 0

-- The first child that ends after the cut: the n-th. It holds the cut strictly inside, between its pivots, or starts at it or after it; or there is none.
pub data Point : Type 0 where
  within : ℕ → ℕ → List ℕ → List ℕ → Point
  between : ℕ → List ℕ → Point
  nowhere : ℕ → Point

unfoldable pub point_of : ℕ → List image.Branch → List ℕ → List ℕ → Point
point_of n [] hi k = nowhere n
point_of n (c ∷ cs) hi k =
    cond (before k (branch_high hi cs))
    (cond (before c.pivot k) (within n c.number c.pivot (branch_high hi cs)) (between n c.pivot))
    (point_of (n + 1) cs hi k)

-- the child that a cut falls strictly inside of, if there is one
pub record Holds (x : Point) (b : Branch) : Type 0 where
  pub count : ℕ
  pub is : x ≡ within count b.number b.low.now b.high.now

unfoldable pub Misses : Point → Type 0
Misses (within n i low high) = ⊥
Misses (between n low) = Unit
Misses (nowhere n) = Unit

abbrev pub Held : Point → Option Branch → Type 0
Held x r = MatchOption r (Misses x) (λ b. Holds x b)

-- the entries of the part before the cut, each pivot without its first d bytes: the child that holds the cut stands there under its new number
unfoldable pub before_line : ℕ → ℕ → List image.Branch → List ℕ → List ℕ → List ℕ
before_line d m [] hi k = []
before_line d m (c ∷ cs) hi k =
    cond (before k (branch_high hi cs)) (cond (before c.pivot k) (bytes_of (defined.child m (drop d c.pivot))) [])
    (bytes_of (defined.child c.number (drop d c.pivot)) ++ before_line d m cs hi k)

-- the part of that child, written
unfoldable pub left_at : (ℕ → ℕ) → (ℕ → Tree) → ℕ → List ℕ → ℕ → List ℕ → Point → List ℕ
left_at fresh under h k at s (within n i low high) = left_write fresh (under i) h low high k at s
left_at fresh under h k at s (between n low) = s
left_at fresh under h k at s (nowhere n) = s

-- the entries of the pairs whose keys pass a test, each key without its first d bytes
unfoldable pub side_line : (List ℕ → Bool) → ℕ → List defined.Entry → List ℕ
side_line test d [] = []
side_line test d (defined.pair q v ∷ es) = cond (test q) (bytes_of (defined.pair (drop d q) v) ++ side_line test d es) (side_line test d es)
side_line test d (defined.child i q ∷ es) = side_line test d es
side_line test d (defined.message m ∷ es) = side_line test d es
