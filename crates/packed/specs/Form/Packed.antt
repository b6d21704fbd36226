-- The packed form of a table (request S-10): a tree that a rising table decides, given the numbers of the nodes in the order in which they are used.
use Rattle.std.specs.Prelude.{ℕ, zero, suc, ◌+◌, List, [], ◌∷◌, length, get_or, drop}
use Rattle.image.specs.Bytes.{shared}
use Rattle.image.specs.Path.{path_limit, value_limit}
use Rattle.image.specs.Table.{Row}
use Rattle.image.specs.Image.{Tree, unread, leaf, interior, Forest, end, tree}
use Rattle.image.specs.Sound.{lowest, highest}
use Rattle.packed.specs.Form.Chunk.{Group, members, flat, groups}

-- A level is a list of nodes from left to right, each with its low pivot in full. A node's high pivot is the next one's low, or FF.
pub record Item : Type 0 where
  pub low : List ℕ
  pub node : Tree

abbrev pub key_of : Row → List ℕ
key_of r = r.key

abbrev pub low_of : Item → List ℕ
low_of x = x.low

-- a pair counted with its full path, and a child with its full pivot
abbrev pub pair_weight : Row → ℕ
pair_weight r = 6 + length r.key + length r.value

-- how many bytes a pair takes at most; as many pairs as this fit in a leaf, whatever they are
abbrev pub pair_limit : ℕ
pair_limit = 6 + path_limit + value_limit

abbrev pub least_pairs : ℕ
least_pairs = 8

abbrev pub child_weight : Item → ℕ
child_weight x = 6 + length x.low

-- the first low pivot (or key), or this one if there is none
unfoldable pub first : {A : Type 0} → (A → List ℕ) → List ℕ → List A → List ℕ
first low hi [] = hi
first low hi (x ∷ xs) = low x

-- without the first k bytes of each key, and of each pivot
unfoldable pub short_rows : ℕ → List Row → List Row
short_rows k [] = []
short_rows k (r ∷ t) = record { key = drop k r.key; value = r.value } ∷ short_rows k t

unfoldable pub branches : ℕ → List Item → Forest
branches k [] = end
branches k (x ∷ xs) = tree (drop k x.low) x.node (branches k xs)

-- one node of a group, with its two pivots
unfoldable pub leaf_from : ℕ → List ℕ → List ℕ → Group Row → Item
leaf_from i lo hi g = record { low = lo; node = leaf i (short_rows (length (shared lo hi)) (members g)) }

unfoldable pub node_from : ℕ → List ℕ → Group Item → Item
node_from i hi g = record { low = g.head.low; node = interior i (branches (length (shared g.head.low hi)) (members g)) [] }

-- the nodes of a level, one for each group, numbered in order
unfoldable pub leaf_level : List ℕ → List ℕ → List (Group Row) → List Item
leaf_level nums lo [] = []
leaf_level nums lo (g ∷ gs) =
    leaf_from (get_or nums 0 0) lo (first key_of highest (flat gs)) g ∷ leaf_level (drop 1 nums) (first key_of highest (flat gs)) gs

unfoldable pub node_level : List ℕ → List (Group Item) → List Item
node_level nums [] = []
node_level nums (g ∷ gs) = node_from (get_or nums 0 0) (first low_of highest (flat gs)) g ∷ node_level (drop 1 nums) gs

-- the leaves of a table: the first one's low pivot is the empty string
unfoldable pub leaves : List ℕ → List Row → List Item
leaves nums [] = record { low = lowest; node = leaf (get_or nums 0 0) [] } ∷ []
leaves nums (r ∷ t) = leaf_level nums lowest (groups pair_weight (r ∷ t))

-- the level above
unfoldable pub raised : List ℕ → List Item → List Item
raised nums xs = node_level nums (groups child_weight xs)

pub record Built : Type 0 where
  pub root : Tree
  pub levels : ℕ

unfoldable pub top_of : List Item → Tree
top_of [] = unread 0
top_of (x ∷ xs) = x.node

-- level by level, until one node is left; the first number bounds how many levels come on top, l is the level of these nodes
unfoldable pub climb : ℕ → ℕ → List ℕ → List Item → Built
climb zero l nums xs = record { root = top_of xs; levels = l }
climb (suc f) l nums [] = record { root = top_of []; levels = l }
climb (suc f) l nums (x ∷ []) = record { root = x.node; levels = l }
climb (suc f) l nums (x ∷ y ∷ zs) =
    climb f (suc l) (drop (length (raised nums (x ∷ y ∷ zs))) nums) (raised nums (x ∷ y ∷ zs))

unfoldable pub packed : List ℕ → List Row → Built
packed nums t = climb 7 1 (drop (length (leaves nums t)) nums) (leaves nums t)

-- k numbers from i up: what tidy hands in is from 1
unfoldable pub numbers_from : ℕ → ℕ → List ℕ
numbers_from i zero = []
numbers_from i (suc k) = i ∷ numbers_from (suc i) k
