-- What a caller has in hand is what the slices ask: of a tree that is read from the image, sound and settled, cut by a short cut strictly inside its
-- range, whose low pivot is empty. And the list of free nodes as the laws of the move have it. Relies on specs/Slicing's `cut_fits` and `read_fits`.
use Rattle.std.specs.Prelude.{ℕ, ◌+◌, ◌*◌, ◌<◌, ◌≤◌, ◌≡◌, refl, List, [], Bool, true, ◌||◌, length}
use Rattle.image.specs.Bytes.{before, begins, shared}
use Rattle.image.specs.Entry.{pivot_limit}
use Rattle.image.specs.Image.{nodes_of, tree_at}
use Rattle.laws.specs.Pieces.{Good}
use Rattle.laws.specs.Reading.Relative.{usable}
use Rattle.slice.specs.Slicing.FromImage.{read_fits}
use Rattle.slice.specs.Slicing.SliceFits.{cut_fits}
use Rattle.slice.specs.Point.{fresh_in}
use Rattle.slice.specs.Left.{LeftAsks}
use Rattle.slice.specs.Right.{RightAsks}

module _ (s : List ℕ) (num level : ℕ) (lo hi k : List ℕ) (free : List ℕ) (reads : usable (nodes_of (length s)) (tree_at level s num) ≡ true)
    (good : Good level (tree_at level s num) lo hi) (above : before lo k ≡ true) (below : before k hi ≡ true) (short : length k ≤ pivot_limit)
    (few : nodes_of (length s) ≤ 1024) (levels : level ≤ 8) (at : ℕ) where
  pub left-asked : at + level ≤ length free → ((i : ℕ) → i < at + level → fresh_in free i * 1024 + 1024 ≤ length s) → LeftAsks s num level lo hi k at free
  left-asked enough room =
      record {
        reads = reads;
        small = (cut_fits (fresh_in free) true (tree_at level s num) level lo hi k at 0 good above below short refl (read_fits level s num)).0;
        above = above;
        below = below;
        few = few;
        levels = levels;
        enough = enough;
        room = room;
      }

  pub right-asked : (w : Bool) → w || begins k hi ≡ true → at + 2 * level ≤ length free
      → ((i : ℕ) → i < at + 2 * level → fresh_in free i * 1024 + 1024 ≤ length s) → RightAsks w s num level lo hi k at free
  right-asked w ends enough room =
      record {
        reads = reads;
        small = (cut_fits (fresh_in free) w (tree_at level s num) level lo hi k 0 at good above below short ends (read_fits level s num)).1;
        above = above;
        below = below;
        few = few;
        levels = levels;
        enough = enough;
        room = room;
      }

-- a tree whose low pivot is empty lifts nothing
pub top-bare : (hi : List ℕ) → shared [] hi ≡ []
unfolding shared
top-bare hi = refl
