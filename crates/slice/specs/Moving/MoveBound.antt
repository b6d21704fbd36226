-- The swing as one theorem: on a settled store of at most 7 levels with the free nodes that it takes. Demand 3's bound leaves more.
use Rattle.std.specs.Prelude.{ℕ, ◌+◌, ◌*◌, ◌≤◌, ◌≡◌, List, true, false, length}
use Rattle.image.specs.Prelude.{arith}
use Rattle.image.specs.Bytes.{begins}
use Rattle.image.specs.Path.{well_formed}
use Rattle.image.specs.Table.{every_key, moved}
use Rattle.image.specs.Image.{nodes_of, node_bytes, whole_nodes, header_of, tree_of}
use Rattle.image.specs.Sound.{sound, table_of, numbers, is_in}
use Rattle.image.specs.Upkeep.{settled, free_nodes, changed}
use Rattle.slice.specs.Moving.MoveImage.{Free}
use Rattle.slice.specs.Moving.MoveDone.{moved_store, store-size, store-sound, store-table, store-changed, store-settled, store-spares}
use Rattle.slice.specs.Moving.FreeList.{free_list, free-supply}

-- what the swing leaves; no node that was reachable is written
pub record Swung (s s' from to : List ℕ) : Type 0 where
  pub size : length s' ≡ length s
  pub is_sound : sound s' ≡ true
  pub table : table_of s' ≡ moved from to (table_of s)
  pub no_message : settled s' ≡ true
  pub few : changed (nodes_of (length s)) s s' ≤ 16 * (header_of s).levels + 8
  pub spares : (j : ℕ) → is_in j (numbers (tree_of s)) ≡ true → node_bytes s' j ≡ node_bytes s j

module _ (s from to : List ℕ) (whole : whole_nodes (length s) ≡ true) (ok : sound s ≡ true) (no_message : settled s ≡ true) (low : (header_of s).levels ≤ 7)
    (a : well_formed from ≡ true) (b : well_formed to ≡ true) (c : begins from to ≡ false) (d : begins to from ≡ false)
    (q9 : every_key well_formed (moved from to (table_of s)) ≡ true) where
  -- with any supply of free nodes
  pub swung-by : (free : List ℕ) → Free s free → Swung s (moved_store s free from to) from to
  swung-by free f =
      record {
        size = store-size s free from to whole ok no_message low a b c d q9 f;
        is_sound = store-sound s free from to whole ok no_message low a b c d q9 f;
        table = store-table s free from to whole ok no_message low a b c d q9 f;
        no_message = store-settled s free from to whole ok no_message low a b c d q9 f;
        few = omega (arith, store-changed s free from to whole ok no_message low a b c d q9 f);
        spares = store-spares s free from to whole ok no_message low a b c d q9 f;
      }

  -- with the list of all of them, rising
  pub swung : 10 * (header_of s).levels + 1 ≤ free_nodes s → Swung s (moved_store s (free_list s) from to) from to
  swung room = swung-by (free_list s) (free-supply s room)
