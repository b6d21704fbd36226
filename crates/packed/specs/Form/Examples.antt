-- The definitions compute.
use Rattle.std.specs.Prelude.{ℕ, zero, suc, ◌≡◌, refl, List, [], ◌∷◌, length, replicate}
use Rattle.image.specs.Bytes.{shared}
use Rattle.image.specs.Path.{value_limit}
use Rattle.image.specs.Table.{Row}
use Rattle.image.specs.Image.{Tree, unread, leaf, interior, Forest, end, tree}
use Rattle.image.specs.Sound.{numbers}
use Rattle.packed.specs.Form.Chunk.{flat, cut, groups}
use Rattle.packed.specs.Form.Packed.{first, branches, leaf_from, node_from, leaf_level, node_level, leaves, raised, climb, packed, numbers_from}

-- k rows of 64 and 48 bytes, the longest, 118 bytes each, the second bytes from a up
rows_from : ℕ → ℕ → List Row
rows_from a zero = []
rows_from a (suc k) = record { key = 0x61 ∷ a ∷ replicate 62 0x61; value = replicate value_limit 0 } ∷ rows_from (suc a) k

shape : Tree → List ℕ
shape (unread i) = []
shape (leaf i rs) = length rs ∷ []
shape (interior i f ms) = shapes f
  where
    shapes : Forest → List ℕ
    shapes end = []
    shapes (tree s t g) = length s ∷ shapes g

-- no row: one empty leaf
none-packed : packed (numbers_from 1 31) [] ≡ record { root = leaf 1 []; levels = 1 }
unfolding packed leaves numbers_from climb
none-packed = refl

-- eight rows fill a leaf, a ninth opens the next
eight : (packed (numbers_from 1 31) (rows_from 0x30 8)).levels ≡ 1
unfolding packed leaves numbers_from climb rows_from groups cut leaf_level
eight = refl

nine : (packed (numbers_from 1 31) (rows_from 0x30 9)).levels ≡ 2
unfolding packed leaves numbers_from climb rows_from groups cut leaf_level leaf_from raised node_level node_from branches first flat shared
nine = refl

-- twenty rows: leaves of 8, 8 and 4, numbered 1 to 3, and a root, 4; it lifts nothing, for its low pivot is empty
twenty : numbers (packed (numbers_from 1 31) (rows_from 0x30 20)).root ≡ 4 ∷ 1 ∷ 2 ∷ 3 ∷ []
unfolding packed leaves numbers_from climb rows_from groups cut leaf_level leaf_from raised node_level node_from numbers branches first flat shared
twenty = refl

twenty-pivots : shape (packed (numbers_from 1 31) (rows_from 0x30 20)).root ≡ 0 ∷ 64 ∷ 64 ∷ []
unfolding packed leaves numbers_from climb rows_from groups cut leaf_level leaf_from raised node_level node_from branches shape shared first flat
twenty-pivots = refl

-- 32 rows, which fill a store of 32 nodes: four leaves and a root, so that with node 0 six nodes are in use; a quarter is eight
full : numbers (packed (numbers_from 1 31) (rows_from 0x30 32)).root ≡ 5 ∷ 1 ∷ 2 ∷ 3 ∷ 4 ∷ []
unfolding packed leaves numbers_from climb rows_from groups cut leaf_level leaf_from raised node_level node_from numbers branches first flat shared
full = refl

-- 136 rows: 17 leaves, of which 15 go under one node (6 + 14 * 70 bytes), the last two under another, and a root on the third level
three_levels : (packed (numbers_from 1 31) (rows_from 0x30 136)).levels ≡ 3
unfolding packed leaves numbers_from climb rows_from groups cut leaf_level leaf_from raised node_level node_from branches first flat shared
three_levels = refl
