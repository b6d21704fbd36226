-- The images between the cuts of a swing, each computed from the store that a step is handed; what each step asks, and what it tells.
-- Definitions only, over slice/Slicing's functions on images.
use Rattle.std.specs.Prelude.{ℕ, ◌+◌, ◌*◌, ◌-◌, ◌≤◌, ◌≡◌, List, [], Bool, true, false, cond, length, take}
use Rattle.image.specs.Image.{header_of, tree_at}
use Rattle.image.specs.Sound.{highest}
use Rattle.laws.specs.Page.{branches_of}
use Rattle.slice.specs.Slicing.Slice.{right_of}
use Rattle.slice.specs.Slicing.SliceWrite.{left_write}
use Rattle.slice.specs.Slicing.RightWrite.{right_write}
use Rattle.slice.specs.Moving.GapWrite.{gap_write}
use Rattle.slice.specs.declared.Parts.{Parts}
use Rattle.slice.specs.Point.{fresh_in}
use Rattle.slice.specs.Left.{LeftAsks}
use Rattle.slice.specs.Right.{RightAsks, pieces_in, PartsFit, raise_branches}
use Rattle.slice.specs.GapSteps.{GapAsks}
use Rattle.swing.specs.declared.Cuts.{Cuts}

-- the path that a range ends behind
unfoldable pub front : List ℕ → List ℕ
front bound = take (length bound - 1) bound

-- ONE RANGE, of a tree with the high pivot hi: the part before its end, the part behind it, and of the first the part before its path
module _ (s : List ℕ) (num h : ℕ) (hi bound : List ℕ) (at : ℕ) (free : List ℕ) where
  unfoldable pub left_in : List ℕ
  left_in = left_write (fresh_in free) (tree_at h s num) h [] hi bound at s

  unfoldable pub right_in : List ℕ
  right_in = right_write (fresh_in free) true (tree_at h left_in num) h [] hi bound (at + h) left_in

  unfoldable pub range_in : List ℕ
  range_in = left_write (fresh_in free) (tree_at h right_in (fresh_in free at)) h [] bound (front bound) (at + 3 * h) right_in

pub record RangeAsks (s : List ℕ) (num h : ℕ) (hi bound : List ℕ) (at : ℕ) (free : List ℕ) : Type 0 where
  pub some : 1 ≤ h
  pub ends : 1 ≤ length bound
  pub short : length bound ≤ 65
  pub left : LeftAsks s num h [] hi bound at free
  pub right : RightAsks true (left_in s num h hi bound at free) num h [] hi bound (at + h) free
  pub inner : LeftAsks (right_in s num h hi bound at free) (fresh_in free at) h [] bound (front bound) (at + 3 * h) free

pub record RangeAs (s : List ℕ) (num h : ℕ) (hi bound : List ℕ) (at : ℕ) (free s' out : List ℕ) (r : Parts) : Type 0 where
  pub written : s' ≡ range_in s num h hi bound at free
  pub pieces : raise_branches [] (branches_of (right_of (fresh_in free) true (tree_at h (left_in s num h hi bound at free) num) [] hi bound (at + h)))
      ≡ pieces_in (fresh_in free (at + h)) (fresh_in free (at + h + 1)) bound out r
  pub fit : PartsFit (length out) r

-- BOTH RANGES, the higher one first
unfoldable pub high_in : List ℕ → ℕ → List ℕ → List ℕ → List ℕ
high_in s h limit free = range_in s (header_of s).root h highest limit 0 free

pub record BothAsks (s : List ℕ) (h : ℕ) (bound limit free : List ℕ) : Type 0 where
  pub big : 12 ≤ length s
  pub higher : RangeAsks s (header_of s).root h highest limit 0 free
  pub lower : RangeAsks (high_in s h limit free) (fresh_in free (3 * h)) h (front limit) bound (4 * h) free

pub record BothAs (s : List ℕ) (h : ℕ) (bound limit free s' low high : List ℕ) (r : Cuts) : Type 0 where
  pub higher : RangeAs s (header_of s).root h highest limit 0 free (high_in s h limit free) high r.high
  pub lower : RangeAs (high_in s h limit free) (fresh_in free (3 * h)) h (front limit) bound (4 * h) free s' low r.low

-- THE RANGE THAT MOVES, as one tree, and the empty chain for its place
module _ (s : List ℕ) (num h : ℕ) (bound free : List ℕ) where
  unfoldable pub tail_in : List ℕ
  tail_in = right_write (fresh_in free) false (tree_at h s num) h [] bound (front bound) (8 * h) s

  unfoldable pub out_in : List ℕ
  out_in = gap_write (fresh_in free) h (front bound) bound (9 * h) tail_in

pub record OutAsks (s : List ℕ) (num h : ℕ) (bound free : List ℕ) : Type 0 where
  pub ends : 1 ≤ length bound
  pub short : length bound ≤ 65
  pub right : RightAsks false s num h [] bound (front bound) (8 * h) free
  pub gap : GapAsks (tail_in s num h bound free) h (front bound) (9 * h) free

-- of the lower range where the move goes up, of the higher one where it goes down
unfoldable pub taken_number : List ℕ → ℕ → Bool → ℕ
taken_number free h up = fresh_in free (cond up (4 * h) 0)

unfoldable pub taken_bound : List ℕ → List ℕ → Bool → List ℕ
taken_bound bound limit up = cond up bound limit

unfoldable pub taken_out : List ℕ → ℕ → List ℕ → List ℕ → List ℕ → Bool → List ℕ
taken_out s h bound limit free up = out_in s (taken_number free h up) h (taken_bound bound limit up) free

pub record TakeAsks (s : List ℕ) (h : ℕ) (bound limit free : List ℕ) (up : Bool) : Type 0 where
  pub out : OutAsks s (taken_number free h up) h (taken_bound bound limit up) free

-- the place, in the list of free nodes, of the node under the lower path: the empty chain's where the move goes up
unfoldable pub low_place : ℕ → Bool → ℕ
low_place h up = cond up (9 * h) (8 * h)
