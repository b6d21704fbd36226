-- What a rebuild promises: the same map in packed form, and the work area as an accepted call must leave it.
-- Relies on the paper's definitions (image) and on packed's table and rows (Tidy, Area).
use Rattle.std.specs.Prelude.{ℕ, ◌+◌, ◌*◌, ◌-◌, ◌/◌, ◌≤◌, ◌≡◌, List, ◌++◌, true, false, length, drop, replicate}
use Rattle.image.specs.Table.{Row}
use Rattle.image.specs.Image.{nodes_of, whole_nodes, header_of, tree_of}
use Rattle.image.specs.Sound.{sound, table_of, is_in, numbers}
use Rattle.image.specs.Upkeep.{settled, tidied}
use Rattle.image.specs.Calls.{work_per_node}
use Rattle.packed.specs.Form.Tidy.{Table}
use Rattle.packed.specs.Rows.Area.{rows_of}

-- the store holds the table t in packed form; three levels at most, so that a new root can be put above; all nodes from a quarter of them
-- on are free, and as many as a move asks for
pub record Repacked (s s' : List ℕ) (t : List Row) : Type 0 where
  pub is_sound : sound s' ≡ true
  pub table : table_of s' ≡ t
  pub is_tidied : tidied s' ≡ true
  pub is_settled : settled s' ≡ true
  pub size : length s' ≡ length s
  pub levels : (header_of s').levels ≤ 3
  pub roomy : 10 * (header_of s').levels + 1 ≤ nodes_of (length s) - nodes_of (length s) / 4
  pub unused : (j : ℕ) → nodes_of (length s) / 4 ≤ j → is_in j (numbers (tree_of s')) ≡ false

-- what the packing of the first m rows of an area asks; the numbers have room for every node below a quarter but node 0
pub record Packable (s area : List ℕ) (m : ℕ) (given : List ℕ) : Type 0 where
  pub whole : whole_nodes (length s) ≡ true
  pub room : 128 * m ≤ length area
  pub table : Table (nodes_of (length s)) (rows_of m area 0)
  pub numbers : length given ≡ nodes_of (length s) / 4 - 1

-- the work area after an accepted call on a store of n nodes
abbrev pub cleared : ℕ → List ℕ → List ℕ
cleared n w = replicate (work_per_node * n) 0 ++ drop (work_per_node * n) w

pub record Rebuilt (s s' w w' : List ℕ) : Type 0 where
  pub is_sound : sound s' ≡ true
  pub table : table_of s' ≡ table_of s
  pub is_tidied : tidied s' ≡ true
  pub is_settled : settled s' ≡ true
  pub size : length s' ≡ length s
  pub work : w' ≡ cleared (nodes_of (length s)) w
  pub levels : (header_of s').levels ≤ 3
  pub roomy : 10 * (header_of s').levels + 1 ≤ nodes_of (length s) - nodes_of (length s) / 4
  pub unused : (j : ℕ) → nodes_of (length s) / 4 ≤ j → is_in j (numbers (tree_of s')) ≡ false
