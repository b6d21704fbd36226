-- The swing as a function on images, for both directions at once; what it asks of a store; and what its steps rely on. Definitions only.
use Rattle.std.specs.Prelude.{ℕ, suc, ◌+◌, ◌*◌, ◌≤◌, ◌<◌, ◌≡◌, List, [], Bool, true, false, cond, length}
use Rattle.image.specs.Bytes.{before, begins}
use Rattle.image.specs.Entry.{pivot_limit}
use Rattle.image.specs.Path.{well_formed}
use Rattle.image.specs.Table.{moved, every_key}
use Rattle.image.specs.Image.{Tree, node_bytes, nodes_of, whole_nodes, header_of, tree_of}
use Rattle.image.specs.Sound.{sound, table_of, highest, numbers, is_in}
use Rattle.image.specs.Upkeep.{settled}
use Rattle.laws.specs.WriteNode.{write_node}
use Rattle.laws.specs.Pieces.{Good}
use Rattle.packed.specs.Build.Handed.{handed}
use Rattle.slice.specs.Slicing.SliceNumbers.{met, spent}
use Rattle.slice.specs.Slicing.SliceFits.{fits}
use Rattle.slice.specs.Slicing.Range.{past}
use Rattle.slice.specs.Slicing.Tail.{gap_of}
use Rattle.slice.specs.Moving.Move.{left_past_r, mid_r, left_past_p, mid_p, root_over}
use Rattle.slice.specs.Moving.MoveWrite.{im9}
use Rattle.slice.specs.Moving.MoveImage.{Free}
use Rattle.slice.specs.Point.{fresh_in}
use Rattle.swing.specs.Cuts.{front}
use Rattle.swing.specs.Head.{swung_with}
use Rattle.laws.specs.Page.{head_page}

-- What the swing asks: a settled sound store with a level left, a list of free nodes, and the questions of a move of two paths that differ.
pub record SwingAsks (s free from to : List ℕ) : Type 0 where
  pub whole : whole_nodes (length s) ≡ true
  pub is_sound : sound s ≡ true
  pub is_settled : settled s ≡ true
  pub low : (header_of s).levels ≤ 7
  pub supply : Free s (handed free)
  pub formed_from : well_formed from ≡ true
  pub formed_to : well_formed to ≡ true
  pub apart_from : begins from to ≡ false
  pub apart_to : begins to from ≡ false
  pub nine : every_key well_formed (moved from to (table_of s)) ≡ true

-- THE NEW TREE AND THE IMAGE WITH IT, of the lower path p and the higher path r: where the move goes up, p is `from`
module _ (fresh : ℕ → ℕ) (h : ℕ) (t : Tree) (p r : List ℕ) (up : Bool) where
  unfoldable pub under_low : Tree
  under_low = cond up (gap_of fresh h p (past p) (9 * h)) (mid_r fresh h t p r)

  unfoldable pub under_high : Tree
  under_high = cond up (mid_p fresh h t p r) (gap_of fresh h r (past r) (9 * h))

  unfoldable pub taken : Tree
  taken = cond up (left_past_p fresh h t p r) (left_past_r fresh h t p r)

  unfoldable pub taken_path : List ℕ
  taken_path = cond up p r

  unfoldable pub image_over : List ℕ → List ℕ
  image_over s = im9 fresh h t p r s taken taken_path under_low under_high

-- with node 0 written last
unfoldable pub swung_over : List ℕ → List ℕ → List ℕ → List ℕ → Bool → List ℕ
swung_over s free bound limit up =
    write_node (image_over (fresh_in free) (header_of s).levels (tree_of s) (front bound) (front limit) up s) 0
    (head_page (nodes_of (length s)) (fresh_in free (10 * (header_of s).levels)) (suc (header_of s).levels) (header_of s).live)

-- What the swing leaves: slice/Moving's image, with the old live count; and every node that was reachable keeps its bytes (node 0 is none of them).
pub record Swings (s s' free from to : List ℕ) : Type 0 where
  pub exact : s' ≡ swung_with (header_of s).live s (handed free) from to
  pub spares : (j : ℕ) → is_in j (numbers (tree_of s)) ≡ true → node_bytes s' j ≡ node_bytes s j

-- What the steps of a swing rely on: the facts of slice/Moving's laws, of the store before it.
pub record Plan (s free p r : List ℕ) (up : Bool) : Type 0 where
  pub good : Good (header_of s).levels (tree_of s) [] highest
  pub fit : fits (tree_of s) ≡ true
  pub above : before [] p ≡ true
  pub between : before (past p) r ≡ true
  pub below : before (past r) highest ≡ true
  pub short_p : length (past p) ≤ pivot_limit
  pub short_r : length (past r) ≤ pivot_limit
  pub room : (x : ℕ) → 1024 * fresh_in free x + 1024 ≤ length s
  pub once : (j : ℕ) → met j (tree_of s) + spent (fresh_in free) j (suc (10 * (header_of s).levels)) 0 ≤ 1
  pub range : (j c : ℕ) → c ≤ suc (10 * (header_of s).levels) → 1 ≤ met j (tree_of s) + spent (fresh_in free) j c 0 → (1 ≤ j) × (j < nodes_of (length s))
  pub small : (x : ℕ) → fresh_in free x < nodes_of (length s)
  pub low : (header_of s).levels ≤ 7
  pub some : 1 ≤ (header_of s).levels
  pub whole : whole_nodes (length s) ≡ true
  pub enough : 10 * (header_of s).levels + 1 ≤ length free
  pub root_fits : fits (root_over (fresh_in free) (header_of s).levels (tree_of s) p r (under_low (fresh_in free) (header_of s).levels (tree_of s) p r up)
      (under_high (fresh_in free) (header_of s).levels (tree_of s) p r up)) ≡ true

pub record PastPlan (s free bound limit : List ℕ) (up : Bool) : Type 0 where
  pub plan : Plan s free (front bound) (front limit) up
  pub bound_is : bound ≡ past (front bound)
  pub limit_is : limit ≡ past (front limit)
