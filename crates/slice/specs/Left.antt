-- What a left part asks of the store, its pivots, the cut and the free nodes; and the same of the child that holds a cut. Definitions only.
use Rattle.std.specs.Prelude.{ℕ, ◌+◌, ◌-◌, ◌*◌, ◌<◌, ◌≤◌, ◌≡◌, List, true, length, take, drop}
use Rattle.image.specs.Bytes.{before}
use Rattle.image.specs.Image.{nodes_of, tree_at}
use Rattle.laws.specs.Reading.Relative.{usable}
use Rattle.slice.specs.Slicing.Slice.{left_of}
use Rattle.slice.specs.Slicing.SliceFits.{fits}
use Rattle.slice.specs.Point.{Point, within, between, nowhere, fresh_in}

pub record LeftAsks (s : List ℕ) (num level : ℕ) (lo hi k : List ℕ) (at : ℕ) (free : List ℕ) : Type 0 where
  pub reads : usable (nodes_of (length s)) (tree_at level s num) ≡ true
  pub small : fits (left_of (fresh_in free) (tree_at level s num) lo hi k at) ≡ true
  pub above : before lo k ≡ true
  pub below : before k hi ≡ true
  pub few : nodes_of (length s) ≤ 1024
  pub levels : level ≤ 8
  pub enough : at + level ≤ length free
  pub room : (i : ℕ) → i < at + level → fresh_in free i * 1024 + 1024 ≤ length s

-- a list without its first j items, as the code's slice has it
abbrev pub from : ℕ → List ℕ → List ℕ
from j l = take (length l - j) (drop j l)

unfoldable pub PointAsks : List ℕ → ℕ → List ℕ → ℕ → List ℕ → Point → Type 0
PointAsks s level k at free (within n i low high) = LeftAsks s i level low high k at free
PointAsks s level k at free (between n low) = Unit
PointAsks s level k at free (nowhere n) = Unit
