-- A message appended to the root: the bytes that stand there afterwards, and that they are sound and mean the table after the message.
-- Relies on Grown for the node that is written, and on laws' Frame for the nodes that are not. The live count is written later: see SetLive.
use Rattle.std.specs.Prelude.{ℕ, zero, suc, ◌+◌, ◌*◌, ◌≤◌, ◌<◌, ◌≡◌, refl, List, [], ◌∷◌, ◌++◌, Bool, true, ◌&&◌, length, leb}
use Rattle.image.specs.Prelude.{sym, ap, ap₂, subst, ◌∙◌, false≢true, Option, none, some, arith, leb-true}
use Rattle.image.specs.Bytes.{u16, u16_bytes, shared}
use Rattle.image.specs.Entry.{Message, Entry, message}
use Rattle.image.specs.Image.{unread, interior, Forest, Inside, header, node_bytes, nodes_of, node_entries, inside_of, forest_of, interior_of, or_none, tree_at, header_of, header_laid_out, tree_of}
use Rattle.image.specs.Meaning.{apply, rows}
use Rattle.image.specs.Sound.{sound_tree, sound_message, numbers, numbers_in, is_in, once, in_range, lowest, highest, table_of}
use Rattle.octets.specs.Order.{and_left, and_right, not-true}
use Rattle.octets.specs.Put.{put, put-size}
use Rattle.laws.specs.Encode.{bytes_of}
use Rattle.laws.specs.WriteNode.{in-store}
use Rattle.laws.specs.Frame.{Keeps, forest-stays, tree-stays}
use Rattle.laws.specs.PushDown.{taken, taken-rows}
use Rattle.laws.specs.Upkeep.Flush.{taken-sound, numbers-taken}
use Rattle.laws.specs.ButLive.{sound_but_live, SoundParts, parts_of, of_parts}
use Rattle.append.specs.Laws.InNode.{node-u16, node-length, put_same, put_other}
use Rattle.append.specs.Laws.Grown.{grown, grown-entries, inside-append}
use Rattle.laws.specs.Upkeep.Reading.{always}
use Rattle.laws.specs.LookupTable.{not-unread}

-- DEFINITIONS
-- where the root's node begins: node 0 has its number at place 6, and the number of levels at place 8
unfoldable pub root_at : List ℕ → ℕ
root_at s = u16 s 6 * 1024

-- the root is an interior node, and its entries leave room for this many bytes
unfoldable pub room_at_root : List ℕ → ℕ → Bool
room_at_root s size = leb 2 (u16 s 8) && leb (u16 s (root_at s) + size) 1016

-- the message's bytes after the root's entries, and the length of the entries raised
unfoldable pub appended : List ℕ → Message → List ℕ
appended s m =
    put (put s (root_at s + 8 + u16 s (root_at s)) (bytes_of (message m))) (root_at s) (u16_bytes (u16 s (root_at s) + length (bytes_of (message m))))

-- what a message at the root leaves, for those who call
pub record Appended (s : List ℕ) (m : Message) (s' : List ℕ) : Type 0 where
  pub size : length s' ≡ length s
  pub but_live : sound_but_live s' ≡ true
  pub table : table_of s' ≡ apply [] m (table_of s)

pub header-root : (s : List ℕ) → (header_of s).root ≡ u16 s 6
unfolding header_of header
header-root s = node-u16 s 0 6 (omega arith)

pub header-levels : (s : List ℕ) → (header_of s).levels ≡ u16 s 8
unfolding header_of header
header-levels s = node-u16 s 0 8 (omega arith)

pub header-live : (s : List ℕ) → (header_of s).live ≡ u16 s 10
unfolding header_of header
header-live s = node-u16 s 0 10 (omega arith)

module _ (s : List ℕ) (m : Message) (inside : u16 s 6 * 1024 + 1024 ≤ length s)
    (fits : u16 s (root_at s) + length (bytes_of (message m)) ≤ 1016) where
  place : root_at s + 8 + u16 s (root_at s) ≡ u16 s 6 * 1024 + (8 + u16 s (root_at s))
  unfolding root_at
  place = omega arith

  start : root_at s ≡ u16 s 6 * 1024 + 0
  unfolding root_at
  start = omega arith

  by-node : appended s m ≡ put (put s (u16 s 6 * 1024 + (8 + u16 s (root_at s))) (bytes_of (message m))) (u16 s 6 * 1024 + 0)
      (u16_bytes (u16 s (root_at s) + length (bytes_of (message m))))
  unfolding appended
  by-node =
      ap₂ (λ a b. put (put s a (bytes_of (message m))) b (u16_bytes (u16 s (root_at s) + length (bytes_of (message m))))) place start

  longer-length : length (put s (u16 s 6 * 1024 + (8 + u16 s (root_at s))) (bytes_of (message m))) ≡ length s
  longer-length = put-size s (u16 s 6 * 1024 + (8 + u16 s (root_at s))) (bytes_of (message m)) (omega arith)

  pub append-length : length (appended s m) ≡ length s
  append-length =
      let n = longer-length in
      ap length by-node
      ∙ put-size (put s (u16 s 6 * 1024 + (8 + u16 s (root_at s))) (bytes_of (message m))) (u16 s 6 * 1024 + 0)
      (u16_bytes (u16 s (root_at s) + length (bytes_of (message m)))) (omega arith)
      ∙ n

  own-size : u16 (node_bytes s (u16 s 6)) 0 ≡ u16 s (root_at s)
  own-size = node-u16 s (u16 s 6) 0 (omega arith) ∙ ap (u16 s) (sym start)

  append-same : node_bytes (appended s m) (u16 s 6) ≡ grown (node_bytes s (u16 s 6)) (message m)
  unfolding grown
  append-same =
      let n = longer-length in
      ap (λ l. node_bytes l (u16 s 6)) by-node
      ∙ put_same (put s (u16 s 6 * 1024 + (8 + u16 s (root_at s))) (bytes_of (message m))) (u16 s 6) 0
      (u16_bytes (u16 s (root_at s) + length (bytes_of (message m)))) (omega arith) (omega arith)
      ∙ ap (λ l. put l 0 (u16_bytes (u16 s (root_at s) + length (bytes_of (message m)))))
      (put_same s (u16 s 6) (8 + u16 s (root_at s)) (bytes_of (message m)) inside (omega arith))
      ∙ ap (λ k. put (put (node_bytes s (u16 s 6)) (8 + k) (bytes_of (message m))) 0 (u16_bytes (k + length (bytes_of (message m))))) (sym own-size)

  append-other : (j : ℕ) → (j ≡ u16 s 6 → ⊥) → node_bytes (appended s m) j ≡ node_bytes s j
  append-other j d =
      let n = longer-length in
      ap (λ l. node_bytes l j) by-node
      ∙ put_other (put s (u16 s 6 * 1024 + (8 + u16 s (root_at s))) (bytes_of (message m))) (u16 s 6) 0
      (u16_bytes (u16 s (root_at s) + length (bytes_of (message m)))) (omega arith) (omega arith) j d
      ∙ put_other s (u16 s 6) (8 + u16 s (root_at s)) (bytes_of (message m)) inside (omega arith) j d

-- THE TREE UNDER A NODE THAT HAS GROWN BY A MESSAGE
away : (i : ℕ) (is : List ℕ) (j : ℕ) → once (i ∷ is) ≡ true → is_in j is ≡ true → j ≡ i → ⊥
unfolding once
away i is j o k e = false≢true (sym (not-true (is_in i is) (and_left _ _ o)) ∙ subst (λ n. is_in n is ≡ true) e k)

keeps-branches : (s s' : List ℕ) (i : ℕ) (is : List ℕ) → once (i ∷ is) ≡ true → ((j : ℕ) → (j ≡ i → ⊥) → node_bytes s' j ≡ node_bytes s j) → Keeps s s' is
unfolding Keeps
keeps-branches s s' i is o law = λ j k. law j (away i is j o k)

interior-numbers : (i : ℕ) (f : Forest) (ms : List Message) → once (numbers (interior i f ms)) ≡ true → once (i ∷ numbers_in f) ≡ true
unfolding numbers
interior-numbers i f ms e = e

none_read : (l : ℕ) (s : List ℕ) (i : ℕ) → node_entries 0x0002 (suc (suc l)) (node_bytes s i) ≡ none → tree_at (suc (suc l)) s i ≡ unread i
unfolding tree_at interior_of or_none
none_read l s i p = rw p refl

some_read : (l : ℕ) (s : List ℕ) (i : ℕ) (es : List Entry) → node_entries 0x0002 (suc (suc l)) (node_bytes s i) ≡ some es
    → tree_at (suc (suc l)) s i ≡ interior_of (λ j. tree_at (suc l) s j) i (inside_of es)
unfolding tree_at or_none
some_read l s i es p = rw p refl

module _ (l : ℕ) (s s' : List ℕ) (i : ℕ) (m : Message) (full : length (node_bytes s i) ≡ 1024)
    (fits : u16 (node_bytes s i) 0 + length (bytes_of (message m)) ≤ 1016) (same : node_bytes s' i ≡ grown (node_bytes s i) (message m))
    (other : (j : ℕ) → (j ≡ i → ⊥) → node_bytes s' j ≡ node_bytes s j) where
  inside-grows : (es : List Entry) → node_entries 0x0002 (suc (suc l)) (node_bytes s i) ≡ some es → (o : Option Inside) → inside_of es ≡ o
      → sound_tree (interior_of (λ j. tree_at (suc l) s j) i o) lowest highest ≡ true → once (numbers (interior_of (λ j. tree_at (suc l) s j) i o)) ≡ true
      → tree_at (suc (suc l)) s' i ≡ taken m (interior_of (λ j. tree_at (suc l) s j) i o)
  unfolding tree_at interior_of or_none taken
  inside-grows es p none q e o = absurd (not-unread i lowest highest e)
  inside-grows es p (some x) q e o =
      rw (same, grown-entries (node_bytes s i) (message m) full fits 0x0002 (suc (suc l)) es (always m) p, inside-append es x m q)
      (ap (λ f. interior i f (x.messages ++ m ∷ []))
      (forest-stays s s' (λ j. tree_at (suc l) s j) (λ j. tree_at (suc l) s' j) (λ j k. tree-stays (suc l) s s' j k) x.branches
      (keeps-branches s s' i (numbers_in (forest_of (λ j. tree_at (suc l) s j) x.branches))
      (interior-numbers i (forest_of (λ j. tree_at (suc l) s j) x.branches) x.messages o) other)))

  pub tree-grows : sound_tree (tree_at (suc (suc l)) s i) lowest highest ≡ true → once (numbers (tree_at (suc (suc l)) s i)) ≡ true
      → tree_at (suc (suc l)) s' i ≡ taken m (tree_at (suc (suc l)) s i)
  tree-grows e o = go (node_entries 0x0002 (suc (suc l)) (node_bytes s i)) refl
    where
      go : (x : Option (List Entry)) → node_entries 0x0002 (suc (suc l)) (node_bytes s i) ≡ x → tree_at (suc (suc l)) s' i ≡ taken m (tree_at (suc (suc l)) s i)
      go none p = absurd (not-unread i lowest highest (subst (λ t. sound_tree t lowest highest ≡ true) (none_read l s i p) e))
      go (some es) p =
          let is : tree_at (suc (suc l)) s i ≡ interior_of (λ j. tree_at (suc l) s j) i (inside_of es) = some_read l s i es p in
          inside-grows es p (inside_of es) refl (subst (λ t. sound_tree t lowest highest ≡ true) is e) (subst (λ t. once (numbers t) ≡ true) is o)
          ∙ ap (taken m) (sym is)

-- THE IMAGE
nothing-lifted : shared lowest highest ≡ []
unfolding shared
nothing-lifted = refl

pub room-levels : (s : List ℕ) (size : ℕ) → room_at_root s size ≡ true → 2 ≤ u16 s 8
unfolding room_at_root
room-levels s size e = leb-true 2 (u16 s 8) (and_left _ _ e)

pub room_fits : (s : List ℕ) (size : ℕ) → room_at_root s size ≡ true → u16 s (root_at s) + size ≤ 1016
unfolding room_at_root
room_fits s size e = leb-true (u16 s (root_at s) + size) 1016 (and_right (leb 2 (u16 s 8)) _ e)

pub root-inside : (s : List ℕ) → sound_but_live s ≡ true → u16 s 6 * 1024 + 1024 ≤ length s
root-inside s e =
    let p : SoundParts s = parts_of s e in
    let r = header-root s in
    in-store (length s) (u16 s 6) (omega (arith, p.root_high))

module _ (s : List ℕ) (m : Message) (e : sound_but_live s ≡ true) (room : room_at_root s (length (bytes_of (message m))) ≡ true) where
  header-stays : node_bytes (appended s m) 0 ≡ node_bytes s 0
  header-stays =
      let p : SoundParts s = parts_of s e in
      let r = header-root s in
      append-other s m (root-inside s e) (room_fits s (length (bytes_of (message m))) room) 0 (λ z. omega (arith, p.root_low))

  tree-at : (k i : ℕ) → 2 ≤ k → i ≡ u16 s 6 → sound_tree (tree_at k s i) lowest highest ≡ true → once (numbers (tree_at k s i)) ≡ true
      → tree_at k (appended s m) i ≡ taken m (tree_at k s i)
  tree-at zero i h q t o = absurd (omega arith)
  tree-at (suc zero) i h q t o = absurd (omega arith)
  tree-at (suc (suc l)) i h q t o =
      let inside = root-inside s e in
      let fits = room_fits s (length (bytes_of (message m))) room in
      let size : u16 (node_bytes s i) 0 ≡ u16 s (root_at s) = ap (λ n. u16 (node_bytes s n) 0) q ∙ own-size s m inside fits in
      tree-grows l s (appended s m) i m (node-length s i (omega arith)) (omega arith)
      (subst (λ n. node_bytes (appended s m) n ≡ grown (node_bytes s n) (message m)) (sym q) (append-same s m inside fits))
      (λ j d. append-other s m inside fits j (λ z. d (z ∙ sym q))) t o

  pub appended-tree : tree_of (appended s m) ≡ taken m (tree_of s)
  unfolding tree_of header_of
  appended-tree =
      let p : SoundParts s = parts_of s e in
      let levels = header-levels s in
      let two : 2 ≤ (header_of s).levels = let h = room-levels s (length (bytes_of (message m))) room in omega arith in
      ap (λ b. tree_at (header b).levels (appended s m) (header b).root) header-stays
      ∙ tree-at (header_of s).levels (header_of s).root two (header-root s) p.tree p.once

  -- a message that is sound for the root
  pub appended-is : sound_message lowest highest m ≡ true → Appended s m (appended s m)
  unfolding table_of header_of
  appended-is w =
      let p : SoundParts s = parts_of s e in
      let t : tree_of (appended s m) ≡ taken m (tree_of s) = appended-tree in
      let n : length (appended s m) ≡ length s = append-length s m (root-inside s e) (room_fits s (length (bytes_of (message m))) room) in
      let h : header_of (appended s m) ≡ header_of s = ap header header-stays in
      let same : numbers (tree_of (appended s m)) ≡ numbers (tree_of s) = ap numbers t ∙ numbers-taken m (tree_of s) in
      record {
        size = n;
        but_live =
            of_parts (appended s m)
            (record {
              laid = ap header_laid_out header-stays ∙ p.laid;
              count = ap (λ x. x.count) h ∙ p.count ∙ ap nodes_of (sym n);
              root_low = subst (λ x. 1 ≤ x.root) (sym h) p.root_low;
              root_high = subst (λ x. x < nodes_of (length (appended s m))) (sym (ap (λ x. x.root) h)) (subst (λ k. (header_of s).root < nodes_of k) (sym n) p.root_high);
              levels_low = subst (λ x. 1 ≤ x.levels) (sym h) p.levels_low;
              levels_high = subst (λ x. x.levels ≤ 8) (sym h) p.levels_high;
              live_high = subst (λ x. x ≤ nodes_of (length (appended s m))) (sym (ap (λ x. x.live) h)) (subst (λ k. (header_of s).live ≤ nodes_of k) (sym n) p.live_high);
              tree = ap (λ x. sound_tree x lowest highest) t ∙ taken-sound m (tree_of s) lowest highest p.tree w;
              once = ap once same ∙ p.once;
              range = ap₂ (λ k is. in_range (nodes_of k) is) n same ∙ p.range;
            });
        table = ap (λ x. rows x lowest highest) t ∙ taken-rows m (tree_of s) lowest highest p.tree ∙ ap (λ l. apply l m (rows (tree_of s) lowest highest)) nothing-lifted;
      }
