-- What `build` asks of its callers, and what it promises.
-- The law `built` (BuiltLaws) turns the contract's equation into the record `Built`.
use Rattle.std.specs.Prelude.{ℕ, ◌*◌, ◌-◌, ◌/◌, ◌≤◌, ◌≡◌, List, true, false, length}
use Rattle.image.specs.Table.{Row}
use Rattle.image.specs.Image.{node_bytes, nodes_of, tree_of}
use Rattle.image.specs.Sound.{is_in, numbers, once, in_range, sound, table_of}
use Rattle.image.specs.Upkeep.{tidied}
use Rattle.packed.specs.Form.Packed.{packed}
use Rattle.packed.specs.Form.Tidy.{image_of, Table}
use Rattle.packed.specs.Rows.Area.{rows_of}
use Rattle.packed.specs.Build.Handed.{handed}

-- A store of 32 to 1,024 nodes; m rows that are a table it may hold; numbers from 1 on that differ, at least one less of them than a quarter of the nodes.
pub record Asks (store area : List ℕ) (m : ℕ) (given : List ℕ) : Type 0 where
  pub size : length store ≡ 1024 * nodes_of (length store)
  pub least : 32 ≤ nodes_of (length store)
  pub most : nodes_of (length store) ≤ 1024
  pub room : 128 * m ≤ length area
  pub table : Table (nodes_of (length store)) (rows_of m area 0)
  pub enough : nodes_of (length store) / 4 - 1 ≤ length (handed given)
  pub differ : once (handed given) ≡ true
  pub ranged : in_range (nodes_of (length store)) (handed given) ≡ true

-- the packed image of the rows over the bytes of the store
unfoldable pub built_image : List ℕ → List ℕ → ℕ → List ℕ → List ℕ
built_image store area m given = image_of store (nodes_of (length store)) m (packed (handed given) (rows_of m area 0))

pub record Built (store store' : List ℕ) (t : List Row) (nums : List ℕ) : Type 0 where
  pub is_sound : sound store' ≡ true
  pub same_table : table_of store' ≡ t
  pub is_tidied : tidied store' ≡ true
  pub same_size : length store' ≡ length store
  pub unused : (j : ℕ) → is_in j nums ≡ false → is_in j (numbers (tree_of store')) ≡ false
  pub others : (j : ℕ) → 1 ≤ j → is_in j nums ≡ false → node_bytes store' j ≡ node_bytes store j
