-- The walk of next as its functions see it: the paths that entries name, the paths under a child and under a run of children, and what
-- each function may rely on. Relies on: the walk over keys of laws/Reading (Seek, SeekHere), the shape of a path (path/specs/Shape).
use Rattle.std.specs.Prelude.{ℕ, ◌≡◌, List, [], ◌∷◌, ◌++◌, Bool, true, ◌&&◌, not, length, drop}
use Rattle.image.specs.Prelude.{Option}
use Rattle.image.specs.Bytes.{shared}
use Rattle.image.specs.Entry.{Entry}
use Rattle.image.specs.Table.{is_some}
use Rattle.image.specs.Image.{Branch, nodes_of, forest_of, tree_at}
use Rattle.image.specs.Sound.{sound, sound_tree, value_in}
use Rattle.path.specs.Shape.{Shape, goes_on}
use Rattle.laws.specs.Reading.Relative.{lifts, branch_high, usable}
use Rattle.laws.specs.Reading.Seek.{try, walk}
use Rattle.node.specs.Lent.{path_of}
use Rattle.laws.specs.Reading.SeekHere.{under, keys_here, keys_branches}

-- a path is present in the image
unfoldable pub is_present : List ℕ → List ℕ → Bool
is_present s k = is_some (value_in s k)

-- what follows the bytes of `below` does not go on from a shape; from the dead shape nothing does
unfoldable pub unfit : Shape → List ℕ → List ℕ → Bool
unfit sh below k = not (goes_on sh (drop (length below) k))

-- a path is unfit, and present in the image
unfoldable pub is_sought : List ℕ → Shape → List ℕ → List ℕ → Bool
is_sought s sh below k = unfit sh below k && is_present s k

-- one path tried, and the walk over a list of paths, both from the best so far: below `below`, after `after`, unfit for the shape
unfoldable pub try_in : List ℕ → Shape → List ℕ → List ℕ → Option (List ℕ) → List ℕ → Option (List ℕ)
try_in s sh below after best k = try (is_sought s sh below) below after best k

unfoldable pub walk_in : List ℕ → Shape → List ℕ → List ℕ → Option (List ℕ) → List (List ℕ) → Option (List ℕ)
walk_in s sh below after best ks = walk (is_sought s sh below) below after best ks

-- the paths that entries name
unfoldable pub paths_of : List Entry → List (List ℕ)
paths_of [] = []
paths_of (e ∷ es) = path_of e ++ paths_of es

-- the paths under the child num with these pivots, and under these children and in the entries es
unfoldable pub child_paths : ℕ → List ℕ → ℕ → List ℕ → List ℕ → List (List ℕ)
child_paths level s num low high = under (shared low high) (keys_here (tree_at level s num) (drop (lifts low high) high))

unfoldable pub run_paths : ℕ → List ℕ → List ℕ → List Branch → List Entry → List (List ℕ)
run_paths level s hi ks es = keys_branches (forest_of (λ j. tree_at level s j) ks) hi ++ paths_of es

-- A child under the prefix `prefix` with the pivots low and high, without `prefix`.
pub record ChildReady (s prefix low high : List ℕ) (level num : ℕ) : Type 0 where
  pub whole : sound s ≡ true
  pub usable : usable (nodes_of (length s)) (tree_at level s num) ≡ true
  pub tree : sound_tree (tree_at level s num) (prefix ++ low) (prefix ++ high) ≡ true

-- A node that lifts `prefix`, with the high pivot hi without `prefix`. Its low pivot is not needed to read it, only to know that it is sound.
pub record NodeReady (s prefix hi : List ℕ) (level num : ℕ) : Type 0 where
  pub whole : sound s ≡ true
  pub usable : usable (nodes_of (length s)) (tree_at level s num) ≡ true
  pub lo : List ℕ
  pub apart : shared lo hi ≡ []
  pub tree : sound_tree (tree_at level s num) (prefix ++ lo) (prefix ++ hi) ≡ true

-- each of these children, the last of which ends at hi
unfoldable pub BranchesReady : List ℕ → ℕ → List ℕ → List ℕ → List Branch → Type 0
BranchesReady s level prefix hi [] = Unit
BranchesReady s level prefix hi (k ∷ ks) = ChildReady s prefix k.pivot (branch_high hi ks) level k.number × BranchesReady s level prefix hi ks
