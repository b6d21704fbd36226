-- A store with node 0 and an empty leaf written over its bytes is sound and means the empty map, whatever the nodes from 2 on hold: they are free.
-- Relies on laws: Page (node 0 and an empty leaf read back), WriteNode (one node written).
use Rattle.std.specs.Prelude.{ℕ, ◌/◌, ◌≤◌, ◌≡◌, refl, List, [], true, length}
use Rattle.image.specs.Prelude.{ap, ◌∙◌, arith, lt-ltb, le-leb, eq-eqb}
use Rattle.image.specs.Bytes.{shared}
use Rattle.image.specs.Entry.{read_all, entries_of}
use Rattle.image.specs.Table.{every_key, under_prefix, rising}
use Rattle.image.specs.Image.{leaf, node_bytes, nodes_of, whole_nodes, header_of, node_entries, pairs_of, leaf_of, or_none, tree_at, tree_of}
use Rattle.image.specs.Meaning.{rows}
use Rattle.image.specs.Sound.{values_fit, sound_tree, numbers, is_in, once, in_range, sound_header, sound_root, sound, table_of}
use Rattle.image.specs.Contract.{Made}
use Rattle.laws.specs.Page.{page, page-length, page-reads, head_page, head-header, head-laid, head-length}
use Rattle.laws.specs.WriteNode.{write_node, write-length, write_same, write-other}
use Rattle.node.specs.Whole.{Whole, whole_parts}

unfoldable pub emptied : List ℕ → List ℕ
emptied s = write_node (write_node s 0 (head_page (length s / 1024) 1 1 0)) 1 (page 1 1 [])

-- both nodes lie in the store
pub two-nodes : (len : ℕ) → whole_nodes len ≡ true → (2048 ≤ len) × (len ≤ 2000000)
two-nodes len e =
    let w : Whole len = whole_parts len e in
    (omega (arith, w.filled, w.enough), omega (arith, w.filled, w.few))

module _ (s : List ℕ) (whole : whole_nodes (length s) ≡ true) where
  abbrev n : ℕ
  n = nodes_of (length s)

  long : 2048 ≤ length s
  long = (two-nodes (length s) whole).0

  abbrev headed : List ℕ
  headed = write_node s 0 (head_page (length s / 1024) 1 1 0)

  headed-length : length headed ≡ length s
  headed-length = write-length s 0 (head_page (length s / 1024) 1 1 0) (omega (arith, long)) (head-length (length s / 1024) 1 1 0)

  leaf-length : length (page 1 1 []) ≡ 1024
  leaf-length = page-length 1 1 [] (omega arith)

  pub emptied-length : length (emptied s) ≡ length s
  unfolding emptied
  emptied-length = write-length headed 1 (page 1 1 []) (omega (arith, long, headed-length)) leaf-length ∙ headed-length

  node-0 : node_bytes (emptied s) 0 ≡ head_page n 1 1 0
  unfolding emptied nodes_of
  node-0 =
      write-other headed 1 (page 1 1 []) (omega (arith, long, headed-length)) leaf-length 0 (λ e. omega arith)
      ∙ write_same s 0 (head_page (length s / 1024) 1 1 0) (omega (arith, long)) (head-length (length s / 1024) 1 1 0)

  node-1 : node_bytes (emptied s) 1 ≡ page 1 1 []
  unfolding emptied
  node-1 = write_same headed 1 (page 1 1 []) (omega (arith, long, headed-length)) leaf-length

  its-header : header_of (emptied s) ≡ record { count = n; root = 1; levels = 1; live = 0 }
  unfolding header_of
  its-header = rw node-0 (head-header n 1 1 0)

  its-tree : tree_of (emptied s) ≡ leaf 1 []
  unfolding tree_of tree_at
  its-tree = rw its-header (rw node-1 read_back)
    where
      read_back : leaf_of 1 (or_none pairs_of (node_entries 1 1 (page 1 1 []))) ≡ leaf 1 []
      read_back = rw (page-reads 1 1 [] (omega arith)) (unfold leaf_of or_none pairs_of entries_of read_all in refl)

  head-sound : sound_header n (record { count = n; root = 1; levels = 1; live = 0 }) ≡ true
  unfolding sound_header
  head-sound = let w = (whole_parts (length s) whole).enough in rw (eq-eqb n n refl, lt-ltb 1 n (omega arith), le-leb 0 n (omega arith))

  root-sound : sound_root n 0 (leaf 1 []) ≡ true
  unfolding sound_root sound_tree every_key under_prefix rising values_fit numbers once is_in in_range rows shared
  root-sound = let w = (whole_parts (length s) whole).enough in rw (lt-ltb 1 n (omega arith))

  its-sound : sound (emptied s) ≡ true
  unfolding sound
  its-sound = rw (ap nodes_of emptied-length, its-header, its-tree, node-0, head-laid n 1 1 0, head-sound, root-sound)

  pub emptied-made : Made (emptied s)
  unfolding table_of rows under_prefix
  emptied-made = record { whole = ap whole_nodes emptied-length ∙ whole; is_sound = its-sound; empty = rw its-tree refl }
