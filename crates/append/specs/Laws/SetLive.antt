-- The live count of node 0 written: the tree and the table stay, and with the right count the image is sound.
-- Relies on NodeZero, and on laws' Frame: node 0 is no node of the tree.
use Rattle.std.specs.Prelude.{ℕ, ◌+◌, ◌*◌, ◌≤◌, ◌<◌, ◌≡◌, List, true, length}
use Rattle.image.specs.Prelude.{sym, ap, ap₂, subst, ◌∙◌, arith}
use Rattle.image.specs.Bytes.{u16_bytes}
use Rattle.image.specs.Image.{header, node_bytes, nodes_of, header_of, header_laid_out, tree_at, tree_of}
use Rattle.image.specs.Meaning.{rows}
use Rattle.image.specs.Sound.{sound, sound_tree, numbers, is_in, once, in_range, lowest, highest, table_of}
use Rattle.octets.specs.Order.{not_so}
use Rattle.octets.specs.Put.{put, put-size, u16-there}
use Rattle.laws.specs.Frame.{Keeps, tree-stays}
use Rattle.packed.specs.Form.Tidy.{zero-out}
use Rattle.laws.specs.ButLive.{sound_but_live, SoundParts, parts_of, of_parts, live-sound}
use Rattle.append.specs.Laws.InNode.{u16-before, node-length, put_same, put_other}
use Rattle.append.specs.Laws.NodeZero.{laid-put}
use Rattle.laws.specs.WriteNode.{in-store}

unfoldable pub with_live : List ℕ → ℕ → List ℕ
with_live s live = put s 10 (u16_bytes live)

pub first-node : (s : List ℕ) → sound_but_live s ≡ true → 0 * 1024 + 1024 ≤ length s
first-node s e = let p : SoundParts s = parts_of s e in let h = in-store (length s) (header_of s).root p.root_high in omega arith

module _ (s : List ℕ) (live : ℕ) (e : sound_but_live s ≡ true) where
  live-node : node_bytes (with_live s live) 0 ≡ put (node_bytes s 0) 10 (u16_bytes live)
  unfolding with_live
  live-node = put_same s 0 10 (u16_bytes live) (first-node s e) (omega arith)

  pub live-length : length (with_live s live) ≡ length s
  unfolding with_live
  live-length = let h = first-node s e in put-size s 10 (u16_bytes live) (omega arith)

  pub other-stays : (j : ℕ) → (j ≡ 0 → ⊥) → node_bytes (with_live s live) j ≡ node_bytes s j
  unfolding with_live
  other-stays j d = put_other s 0 10 (u16_bytes live) (first-node s e) (omega arith) j d

  live-header : header_of (with_live s live) ≡ record { count = (header_of s).count; root = (header_of s).root; levels = (header_of s).levels; live = live }
  unfolding header_of header
  live-header =
      let n : length (node_bytes s 0) ≡ 1024 = node-length s 0 (first-node s e) in
      ap header live-node
      ∙ rw (
        u16-before (node_bytes s 0) 10 (u16_bytes live) (omega arith) 4 (omega arith),
        u16-before (node_bytes s 0) 10 (u16_bytes live) (omega arith) 6 (omega arith),
        u16-before (node_bytes s 0) 10 (u16_bytes live) (omega arith) 8 (omega arith),
        u16-there (node_bytes s 0) 10 live (omega arith),
      )

  tree-kept : Keeps s (with_live s live) (numbers (tree_of s))
  unfolding Keeps
  tree-kept =
      let p : SoundParts s = parts_of s e in
      λ j k. other-stays j (λ z. not_so (subst (λ n. is_in n (numbers (tree_of s)) ≡ true) z k) (zero-out (nodes_of (length s)) (numbers (tree_of s)) p.range))

  pub live-tree : tree_of (with_live s live) ≡ tree_of s
  unfolding tree_of
  live-tree =
      ap (λ h. tree_at h.levels (with_live s live) h.root) live-header
      ∙ tree-stays (header_of s).levels s (with_live s live) (header_of s).root tree-kept

  pub live_table : table_of (with_live s live) ≡ table_of s
  unfolding table_of
  live_table = ap (λ t. rows t lowest highest) live-tree

  pub live-but : live ≤ nodes_of (length s) → sound_but_live (with_live s live) ≡ true
  live-but h =
      let p : SoundParts s = parts_of s e in
      let n = live-length in
      let full : length (node_bytes s 0) ≡ 1024 = node-length s 0 (first-node s e) in
      let k : nodes_of (length (with_live s live)) ≡ nodes_of (length s) = ap nodes_of n in
      of_parts (with_live s live)
      (record {
        laid = ap header_laid_out live-node ∙ laid-put (node_bytes s 0) 10 live (omega arith) (omega arith) (omega arith) p.laid;
        count = ap (λ x. x.count) live-header ∙ p.count ∙ sym k;
        root_low = subst (λ x. 1 ≤ x.root) (sym live-header) p.root_low;
        root_high = subst (λ x. x.root < nodes_of (length (with_live s live))) (sym live-header) (subst (λ c. (header_of s).root < c) (sym k) p.root_high);
        levels_low = subst (λ x. 1 ≤ x.levels) (sym live-header) p.levels_low;
        levels_high = subst (λ x. x.levels ≤ 8) (sym live-header) p.levels_high;
        live_high = subst (λ x. x.live ≤ nodes_of (length (with_live s live))) (sym live-header) (subst (λ c. live ≤ c) (sym k) h);
        tree = ap (λ x. sound_tree x lowest highest) live-tree ∙ p.tree;
        once = ap (λ x. once (numbers x)) live-tree ∙ p.once;
        range = ap₂ (λ c x. in_range c (numbers x)) k live-tree ∙ p.range;
      })

  -- the right count makes it sound
  pub live_right : live ≡ length (table_of s) → live ≤ nodes_of (length s) → sound (with_live s live) ≡ true
  live_right q h =
      live-sound (with_live s live) (live-but h) (ap (λ x. x.live) live-header ∙ q ∙ ap length (sym live_table))
