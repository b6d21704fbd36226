-- Document 01, "Sound means": the rules, one definition each, and `sound`, which asks them all of the bytes of an image.
-- Layout, kinds, levels and the reading of entries are asked by `tree_of` of Image: what breaks them is an unread node.
use Rattle.std.specs.Prelude.{ℕ, List, [], ◌∷◌, ◌++◌, Bool, true, false, ◌&&◌, ◌||◌, not, length, ltb, leb, eqb}
use Rattle.image.specs.Prelude.{Option}
use Rattle.image.specs.Bytes.{same, before, shared}
use Rattle.image.specs.Path.{well_formed, owns, value_fits}
use Rattle.image.specs.Entry.{Message, puts, drops, clears}
use Rattle.image.specs.Table.{Row, every_key, rising, under_prefix}
use Rattle.image.specs.Image.{Tree, unread, leaf, interior, Forest, end, tree, Header, header_of, header_laid_out, node_bytes, nodes_of, tree_of}
use Rattle.image.specs.Meaning.{high_of, rows, lookup}

-- "every value at most 32 bytes", since request S-2 at most 48 (a waiting put's too)
unfoldable pub values_fit : List Row → Bool
values_fit [] = true
values_fit (r ∷ t) = value_fits r.value && values_fit t

-- A message in a node with the pivots lo and hi: "puts and drops well formed and owned; a clear's suffix empty (all the node owns) or,
-- with the lifted prefix, a well-formed path"
unfoldable pub sound_message : List ℕ → List ℕ → Message → Bool
sound_message lo hi (puts s v) = well_formed (shared lo hi ++ s) && owns lo hi (shared lo hi ++ s) && value_fits v
sound_message lo hi (drops s) = well_formed (shared lo hi ++ s) && owns lo hi (shared lo hi ++ s)
sound_message lo hi (clears s) = same s [] || well_formed (shared lo hi ++ s)

unfoldable pub sound_messages : List ℕ → List ℕ → List Message → Bool
sound_messages lo hi [] = true
sound_messages lo hi (m ∷ ms) = sound_message lo hi m && sound_messages lo hi ms

-- "at least one child, the first pivot its own low"
unfoldable pub first_pivot : List ℕ → List ℕ → Forest → Bool
first_pivot lifted lo end = false
first_pivot lifted lo (tree s t f) = same (lifted ++ s) lo

-- The tree of a node with the pivots lo and hi. A leaf: "paths well formed, strictly rising, owned by it". An interior node: "pivots
-- strictly rising and owned". "A node is sound when its list of children is, and the list when each node in it is."
unfoldable mutual
  pub sound_tree : Tree → List ℕ → List ℕ → Bool
  sound_tree (unread i) lo hi = false
  sound_tree (leaf i rs) lo hi =
      every_key well_formed (under_prefix (shared lo hi) rs) && every_key (owns lo hi) (under_prefix (shared lo hi) rs)
      && rising rs && values_fit rs
  sound_tree (interior i f ms) lo hi =
      first_pivot (shared lo hi) lo f && sound_forest f (shared lo hi) lo hi && sound_messages lo hi ms

  pub sound_forest : Forest → List ℕ → List ℕ → List ℕ → Bool
  sound_forest end lifted lo hi = true
  sound_forest (tree s t f) lifted lo hi =
      owns lo hi (lifted ++ s) && before (lifted ++ s) (high_of lifted hi f)
      && sound_tree t (lifted ++ s) (high_of lifted hi f) && sound_forest f lifted lo hi

-- the numbers of the reachable nodes, in the order of a walk from the root, depth first
unfoldable mutual
  pub numbers : Tree → List ℕ
  numbers (unread i) = i ∷ []
  numbers (leaf i rs) = i ∷ []
  numbers (interior i f ms) = i ∷ numbers_in f

  pub numbers_in : Forest → List ℕ
  numbers_in end = []
  numbers_in (tree s t f) = numbers t ++ numbers_in f

unfoldable pub is_in : ℕ → List ℕ → Bool
is_in i [] = false
is_in i (j ∷ js) = eqb i j || is_in i js

-- "reached once"
unfoldable pub once : List ℕ → Bool
once [] = true
once (i ∷ is) = not (is_in i is) && once is

-- "root and child numbers from 1 to n less 1"
unfoldable pub in_range : ℕ → List ℕ → Bool
in_range n [] = true
in_range n (i ∷ is) = leb 1 i && ltb i n && in_range n is

-- "The root's are the empty string and the one byte FF."
abbrev pub lowest : List ℕ
lowest = []

abbrev pub highest : List ℕ
highest = 0xFF ∷ []

-- node 0, "with n the store's own"; levels 1 to 8; live paths at most n
abbrev pub levels_limit : ℕ
levels_limit = 8

unfoldable pub sound_header : ℕ → Header → Bool
sound_header n h =
    eqb h.count n && leb 1 h.root && ltb h.root n && leb 1 h.levels && leb h.levels levels_limit && leb h.live n

-- the tree under the root, each node of it reached once, and "the live count right"
unfoldable pub sound_root : ℕ → ℕ → Tree → Bool
sound_root n live t =
    sound_tree t lowest highest && once (numbers t) && in_range n (numbers t) && eqb live (length (rows t lowest highest))

-- question 2
unfoldable pub sound : List ℕ → Bool
sound image =
    header_laid_out (node_bytes image 0) && sound_header (nodes_of (length image)) (header_of image)
    && sound_root (nodes_of (length image)) (header_of image).live (tree_of image)

-- what a sound image means: each path's value, if it is present; and the same as a table
unfoldable pub value_in : List ℕ → List ℕ → Option (List ℕ)
value_in image p = lookup (tree_of image) lowest highest p

unfoldable pub table_of : List ℕ → List Row
table_of image = rows (tree_of image) lowest highest
