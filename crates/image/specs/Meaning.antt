-- Document 01, "Meaning": `lookup` as the paper tells it, from the root down; and `rows`, the table of a tree, by the plain map's own
-- steps. They say the same of a sound image: law `means-table` of crate laws.
use Rattle.std.specs.Prelude.{ℕ, List, [], ◌∷◌, ◌++◌, cond, length, drop}
use Rattle.image.specs.Prelude.{Option, none, some}
use Rattle.image.specs.Bytes.{same, begins, shared}
use Rattle.image.specs.Path.{owns}
use Rattle.image.specs.Entry.{Message, puts, drops, clears}
use Rattle.image.specs.Table.{Row, find, with_row, without, without_below, under_prefix}
use Rattle.image.specs.Image.{Tree, unread, leaf, interior, Forest, end, tree}

-- what the messages of a node say of a path: nothing, or that it is absent or has a value
pub data Said : Type 0 where
  nothing : Said
  says : Option (List ℕ) → Said

-- what one message says of the rest of a path, "after the lifted bytes"
unfoldable pub says_of : Message → List ℕ → Said
says_of (puts s v) rest = cond (same s rest) (says (some v)) nothing
says_of (drops s) rest = cond (same s rest) (says none) nothing
says_of (clears s) rest = cond (begins s rest) (says none) nothing

unfoldable pub newer : Said → Said → Said
newer old nothing = old
newer old (says v) = says v

-- "the newest message that names the path, or clears a beginning of it, decides"; the messages are oldest first
unfoldable pub newest : List Message → List ℕ → Said
newest [] rest = nothing
newest (m ∷ ms) rest = newer (says_of m rest) (newest ms rest)

-- what a node's messages say, or else the answer from below
unfoldable pub decide : Said → Option (List ℕ) → Option (List ℕ)
decide nothing below = below
decide (says v) below = v

-- "its high one is the next child's low, or its parent's high": the high pivot of the child before these
unfoldable pub high_of : List ℕ → List ℕ → Forest → List ℕ
high_of lifted hi end = hi
high_of lifted hi (tree s t f) = lifted ++ s

-- Lookup of path p in the tree of a node with the pivots lo and hi; "the child that owns it" goes on, "a leaf answers by its pair".
unfoldable mutual
  pub lookup : Tree → List ℕ → List ℕ → List ℕ → Option (List ℕ)
  lookup (unread i) lo hi p = none
  lookup (leaf i rows) lo hi p = find (drop (length (shared lo hi)) p) rows
  lookup (interior i f ms) lo hi p =
      decide (newest ms (drop (length (shared lo hi)) p)) (lookup_in f (shared lo hi) hi p)

  pub lookup_in : Forest → List ℕ → List ℕ → List ℕ → Option (List ℕ)
  lookup_in end lifted hi p = none
  lookup_in (tree s t f) lifted hi p =
      cond (owns (lifted ++ s) (high_of lifted hi f) p) (lookup t (lifted ++ s) (high_of lifted hi f) p) (lookup_in f lifted hi p)

-- what a message does to a table, its suffix under the lifted prefix
unfoldable pub apply : List ℕ → Message → List Row → List Row
apply lifted (puts s v) t = with_row (lifted ++ s) v t
apply lifted (drops s) t = without (lifted ++ s) t
apply lifted (clears s) t = without_below (lifted ++ s) t

unfoldable pub apply_all : List ℕ → List Message → List Row → List Row
apply_all lifted [] t = t
apply_all lifted (m ∷ ms) t = apply_all lifted ms (apply lifted m t)

-- The table of the tree of a node with the pivots lo and hi: every path that lookup finds, with its value, rising.
unfoldable mutual
  pub rows : Tree → List ℕ → List ℕ → List Row
  rows (unread i) lo hi = []
  rows (leaf i rs) lo hi = under_prefix (shared lo hi) rs
  rows (interior i f ms) lo hi = apply_all (shared lo hi) ms (rows_in f (shared lo hi) hi)

  pub rows_in : Forest → List ℕ → List ℕ → List Row
  rows_in end lifted hi = []
  rows_in (tree s t f) lifted hi = rows t (lifted ++ s) (high_of lifted hi f) ++ rows_in f lifted hi
