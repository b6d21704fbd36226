-- The move: a settled tree cut at the ends of two ranges, and a new root over the parts. Cuts go from the right to the left, each on what lies left
-- of the one before.
use Rattle.std.specs.Prelude.{ℕ, ◌*◌, List, [], true, cond}
use Rattle.image.specs.Bytes.{before}
use Rattle.image.specs.Image.{Tree, Forest, tree}
use Rattle.image.specs.Sound.{highest}
use Rattle.laws.specs.Pieces.{joined, node}
use Rattle.slice.specs.Slicing.Slice.{left_of, right_of}
use Rattle.slice.specs.Slicing.Tail.{tail_of, gap_of}
use Rattle.slice.specs.Slicing.Range.{past}

-- Of a tree of h levels, by the ranges of p and, after it, of r. Each slice has its own h or 2 × h numbers.
module _ (fresh : ℕ → ℕ) (h : ℕ) (t : Tree) (p r : List ℕ) where
  unfoldable pub left_past_r : Tree
  left_past_r = left_of fresh t [] highest (past r) 0

  unfoldable pub right_past_r : Forest
  right_past_r = right_of fresh true t [] highest (past r) h

  unfoldable pub left_r : Tree
  left_r = left_of fresh left_past_r [] (past r) r (3 * h)

  unfoldable pub mid_r : Tree
  mid_r = tail_of fresh left_past_r [] (past r) r (8 * h)

  unfoldable pub left_past_p : Tree
  left_past_p = left_of fresh left_r [] r (past p) (4 * h)

  unfoldable pub right_past_p : Forest
  right_past_p = right_of fresh true left_r [] r (past p) (5 * h)

  unfoldable pub left_p : Tree
  left_p = left_of fresh left_past_p [] (past p) p (7 * h)

  unfoldable pub mid_p : Tree
  mid_p = tail_of fresh left_past_p [] (past p) p (8 * h)

  -- the new root, with x for the range of p and y for that of r
  unfoldable pub pieces : Tree → Tree → Forest
  pieces x y = tree [] left_p (tree p x (joined right_past_p (tree r y right_past_r)))

  unfoldable pub root_over : Tree → Tree → Tree
  root_over x y = node (fresh (10 * h)) [] highest (pieces x y)

-- from before to, or after it
unfoldable pub moved_tree : (ℕ → ℕ) → ℕ → Tree → List ℕ → List ℕ → Tree
moved_tree fresh h t from to =
    cond (before from to)
    (root_over fresh h t from to (gap_of fresh h from (past from) (9 * h)) (mid_p fresh h t from to))
    (root_over fresh h t to from (mid_r fresh h t to from) (gap_of fresh h from (past from) (9 * h)))
