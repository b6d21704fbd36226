-- A new root above the old one, with one message: the bytes that stand there afterwards, that they are sound, and what they mean.
-- Relies on laws' Page for the new node, on NodeZero for node 0, and on laws' Frame for the old tree, which stays whole.
use Rattle.std.specs.Prelude.{ℕ, zero, suc, ◌+◌, ◌*◌, ◌≤◌, ◌<◌, ◌≡◌, refl, List, [], ◌∷◌, ◌++◌, true, false, length}
use Rattle.image.specs.Prelude.{sym, ap, ap₂, subst, ◌∙◌, append-nil, arith, drop_of_length-le, le-leb, lt-ltb}
use Rattle.image.specs.Bytes.{u16, u16_bytes, same, before, shared}
use Rattle.image.specs.Path.{owns}
use Rattle.image.specs.Entry.{Message, child, message}
use Rattle.image.specs.Image.{Tree, interior, end, tree, header, node_bytes, nodes_of, header_of, header_laid_out, tree_at, tree_of}
use Rattle.image.specs.Meaning.{apply, apply_all, high_of, rows, rows_in}
use Rattle.image.specs.Sound.{sound_tree, sound_forest, sound_message, sound_messages, first_pivot, numbers, numbers_in, is_in, once, in_range, lowest, highest, table_of}
use Rattle.octets.specs.Order.{not_so, not-false}
use Rattle.octets.specs.Put.{put, put-size, u16-there}
use Rattle.laws.specs.Encode.{bytes_of, allowed, all_allowed, child-size}
use Rattle.laws.specs.Frame.{Keeps, tree-stays}
use Rattle.laws.specs.Rising.{both}
use Rattle.packed.specs.Form.Tidy.{zero-out}
use Rattle.laws.specs.Page.{number_of, child_entries, number_read}
use Rattle.laws.specs.Upkeep.Size.{size_of, message_entries, size-cons, size-nil}
use Rattle.laws.specs.Upkeep.Page.{page_of, page-length, none_left, one_more, inner-reads}
use Rattle.laws.specs.ButLive.{sound_but_live, SoundParts, parts_of, of_parts}
use Rattle.append.specs.Laws.InNode.{u16-before, u16-after, node-length, put_same, put_other}
use Rattle.append.specs.Laws.NodeZero.{laid-put}
use Rattle.append.specs.Laws.Append.{Appended, header-root, header-levels}
use Rattle.laws.specs.WriteNode.{in-store}
use Rattle.append.specs.Laws.SetLive.{first-node}

-- DEFINITIONS
-- the page of a root of this level, whose one child is the old root, with the empty pivot, and which holds one message
unfoldable pub root_page : ℕ → ℕ → Message → List ℕ
root_page level old m = page_of 0x0002 level (child old [] ∷ message m ∷ [])

-- that page at node i, then node i as the root, and one level more
unfoldable pub root_raised : List ℕ → ℕ → Message → List ℕ
root_raised s i m = put (put (put s (i * 1024) (root_page (u16 s 8 + 1) (u16 s 6) m)) 6 (u16_bytes i)) 8 (u16_bytes (u16 s 8 + 1))

-- THE NEW NODE
root-size : (old : ℕ) (m : Message) → size_of (child old [] ∷ message m ∷ []) ≡ 6 + length (bytes_of (message m))
root-size old m =
    let a = size-cons (child old []) (message m ∷ []) in
    let b = size-cons (message m) [] in
    let c = child-size old [] in
    let d = size-nil in
    omega arith

pub root-page-length : (level old : ℕ) (m : Message) → length (bytes_of (message m)) ≤ 1010 → length (root_page level old m) ≡ 1024
unfolding root_page
root-page-length level old m h = let n = root-size old m in page-length 0x0002 level (child old [] ∷ message m ∷ []) (omega arith)

pub put_whole : (page bs : List ℕ) → length bs ≡ length page → put page 0 bs ≡ bs
unfolding put
put_whole page bs e = let h : length page ≤ 0 + length bs = omega arith in ap (λ l. bs ++ l) (drop_of_length-le page h) ∙ append-nil bs

root-entries : (t : Tree) (m : Message) → child_entries (tree [] t end) ++ message_entries (m ∷ []) ≡ child (number_of t) [] ∷ message m ∷ []
unfolding child_entries message_entries
root-entries t m = refl

root-allowed : (old : ℕ) (m : Message) → all_allowed (child old [] ∷ message m ∷ []) ≡ true
unfolding all_allowed allowed
root-allowed old m = refl

root-reads : (l : ℕ) (s' : List ℕ) (i old : ℕ) (t : Tree) (m : Message) → node_bytes s' i ≡ root_page (suc (suc l)) old m → length (bytes_of (message m)) ≤ 1010
    → number_of t ≡ old → tree_at (suc l) s' old ≡ t → tree_at (suc (suc l)) s' i ≡ interior i (tree [] t end) (m ∷ [])
unfolding root_page
root-reads l s' i old t m e h n r =
    let es : child_entries (tree [] t end) ++ message_entries (m ∷ []) ≡ child old [] ∷ message m ∷ [] = root-entries t m ∙ ap (λ k. child k [] ∷ message m ∷ []) n in
    let z = root-size old m in
    inner-reads l s' i (tree [] t end) (m ∷ []) (e ∙ ap (page_of 0x0002 (suc (suc l))) (sym es))
    (subst (λ x. size_of x ≤ 1016) (sym es) (omega arith))
    (ap all_allowed es ∙ root-allowed old m)
    (one_more (ap (tree_at (suc l) s') n ∙ r) none_left)

-- ITS TREE
above-sound : (i : ℕ) (t : Tree) (m : Message) → sound_tree t lowest highest ≡ true → sound_message lowest highest m ≡ true
    → sound_tree (interior i (tree [] t end) (m ∷ [])) lowest highest ≡ true
unfolding sound_tree sound_forest sound_messages first_pivot high_of shared same owns before
above-sound i t m e w = both (both refl (both (both refl e) refl)) (both w refl)

above_rows : (i : ℕ) (t : Tree) (m : Message) → rows (interior i (tree [] t end) (m ∷ [])) lowest highest ≡ apply [] m (rows t lowest highest)
unfolding rows rows_in apply_all high_of shared
above_rows i t m = ap (apply [] m) (append-nil (rows t lowest highest))

above-numbers : (i : ℕ) (t : Tree) (m : Message) → numbers (interior i (tree [] t end) (m ∷ [])) ≡ i ∷ numbers t
unfolding numbers numbers_in
above-numbers i t m = ap (λ l. i ∷ l) (append-nil (numbers t))

once_more : (i : ℕ) (is : List ℕ) → is_in i is ≡ false → once is ≡ true → once (i ∷ is) ≡ true
unfolding once
once_more i is f e = both (not-false (is_in i is) f) e

range-more : (n i : ℕ) (is : List ℕ) → 1 ≤ i → i < n → in_range n is ≡ true → in_range n (i ∷ is) ≡ true
unfolding in_range
range-more n i is a b e = both (both (le-leb 1 i a) (lt-ltb i n b)) e

-- THE IMAGE
module _ (s : List ℕ) (i : ℕ) (m : Message) (e : sound_but_live s ≡ true) (low : 1 ≤ i) (high : i < nodes_of (length s))
    (free : is_in i (numbers (tree_of s)) ≡ false) (short : length (bytes_of (message m)) ≤ 1010) where
  page-is : length (root_page (u16 s 8 + 1) (u16 s 6) m) ≡ 1024
  page-is = root-page-length (u16 s 8 + 1) (u16 s 6) m short

  inside : i * 1024 + 1024 ≤ length s
  inside = in-store (length s) i high

  start : i * 1024 ≡ i * 1024 + 0
  start = omega arith

  first-length : length (put s (i * 1024) (root_page (u16 s 8 + 1) (u16 s 6) m)) ≡ length s
  first-length = let n = page-is in let k = inside in put-size s (i * 1024) (root_page (u16 s 8 + 1) (u16 s 6) m) (omega arith)

  second-length : length (put (put s (i * 1024) (root_page (u16 s 8 + 1) (u16 s 6) m)) 6 (u16_bytes i)) ≡ length s
  second-length =
      let n = first-length in
      let k = first-node s e in
      put-size (put s (i * 1024) (root_page (u16 s 8 + 1) (u16 s 6) m)) 6 (u16_bytes i) (omega arith) ∙ n

  pub raised-length : length (root_raised s i m) ≡ length s
  unfolding root_raised
  raised-length =
      let n = second-length in
      let k = first-node s e in
      put-size (put (put s (i * 1024) (root_page (u16 s 8 + 1) (u16 s 6) m)) 6 (u16_bytes i)) 8 (u16_bytes (u16 s 8 + 1)) (omega arith) ∙ n

  -- every node but 0, and then every node but i
  raised-past : (j : ℕ) → (j ≡ 0 → ⊥) → node_bytes (root_raised s i m) j ≡ node_bytes (put s (i * 1024) (root_page (u16 s 8 + 1) (u16 s 6) m)) j
  unfolding root_raised
  raised-past j d =
      let a = first-length in
      let b = second-length in
      let k = first-node s e in
      put_other (put (put s (i * 1024) (root_page (u16 s 8 + 1) (u16 s 6) m)) 6 (u16_bytes i)) 0 8 (u16_bytes (u16 s 8 + 1)) (omega arith) (omega arith) j d
      ∙ put_other (put s (i * 1024) (root_page (u16 s 8 + 1) (u16 s 6) m)) 0 6 (u16_bytes i) (omega arith) (omega arith) j d

  raised-other : (j : ℕ) → (j ≡ 0 → ⊥) → (j ≡ i → ⊥) → node_bytes (root_raised s i m) j ≡ node_bytes s j
  raised-other j d c =
      let n = page-is in
      raised-past j d ∙ ap (λ a. node_bytes (put s a (root_page (u16 s 8 + 1) (u16 s 6) m)) j) start
      ∙ put_other s i 0 (root_page (u16 s 8 + 1) (u16 s 6) m) inside (omega arith) j c

  raised-new : node_bytes (root_raised s i m) i ≡ root_page (u16 s 8 + 1) (u16 s 6) m
  raised-new =
      let n = page-is in
      raised-past i (λ z. omega arith) ∙ ap (λ a. node_bytes (put s a (root_page (u16 s 8 + 1) (u16 s 6) m)) i) start
      ∙ put_same s i 0 (root_page (u16 s 8 + 1) (u16 s 6) m) inside (omega arith)
      ∙ put_whole (node_bytes s i) (root_page (u16 s 8 + 1) (u16 s 6) m) (n ∙ sym (node-length s i inside))

  raised-zero : node_bytes (root_raised s i m) 0 ≡ put (put (node_bytes s 0) 6 (u16_bytes i)) 8 (u16_bytes (u16 s 8 + 1))
  unfolding root_raised
  raised-zero =
      let a = first-length in
      let b = second-length in
      let k = first-node s e in
      let n = page-is in
      put_same (put (put s (i * 1024) (root_page (u16 s 8 + 1) (u16 s 6) m)) 6 (u16_bytes i)) 0 8 (u16_bytes (u16 s 8 + 1)) (omega arith) (omega arith)
      ∙ ap (λ l. put l 8 (u16_bytes (u16 s 8 + 1))) (put_same (put s (i * 1024) (root_page (u16 s 8 + 1) (u16 s 6) m)) 0 6 (u16_bytes i) (omega arith) (omega arith))
      ∙ ap (λ l. put (put l 6 (u16_bytes i)) 8 (u16_bytes (u16 s 8 + 1)))
      (ap (λ p. node_bytes (put s p (root_page (u16 s 8 + 1) (u16 s 6) m)) 0) start
      ∙ put_other s i 0 (root_page (u16 s 8 + 1) (u16 s 6) m) inside (omega arith) 0 (λ z. omega arith))

  full : length (node_bytes s 0) ≡ 1024
  full = node-length s 0 (first-node s e)

  half : length (put (node_bytes s 0) 6 (u16_bytes i)) ≡ 1024
  half = let n = full in put-size (node_bytes s 0) 6 (u16_bytes i) (omega arith) ∙ n

  raised-header : header_of (root_raised s i m) ≡ record { count = (header_of s).count; root = i; levels = u16 s 8 + 1; live = (header_of s).live }
  unfolding header_of header
  raised-header =
      let n = full in
      let k = half in
      ap header raised-zero
      ∙ rw (
        u16-before (put (node_bytes s 0) 6 (u16_bytes i)) 8 (u16_bytes (u16 s 8 + 1)) (omega arith) 4 (omega arith),
        u16-before (node_bytes s 0) 6 (u16_bytes i) (omega arith) 4 (omega arith),
        u16-before (put (node_bytes s 0) 6 (u16_bytes i)) 8 (u16_bytes (u16 s 8 + 1)) (omega arith) 6 (omega arith),
        u16-there (node_bytes s 0) 6 i (omega arith),
        u16-there (put (node_bytes s 0) 6 (u16_bytes i)) 8 (u16 s 8 + 1) (omega arith),
        u16-after (put (node_bytes s 0) 6 (u16_bytes i)) 8 (u16_bytes (u16 s 8 + 1)) (omega arith) 10 (omega arith),
        u16-after (node_bytes s 0) 6 (u16_bytes i) (omega arith) 10 (omega arith),
      )

  old-kept : Keeps s (root_raised s i m) (numbers (tree_of s))
  unfolding Keeps
  old-kept =
      let p : SoundParts s = parts_of s e in
      λ j k. raised-other j
      (λ z. not_so (subst (λ n. is_in n (numbers (tree_of s)) ≡ true) z k) (zero-out (nodes_of (length s)) (numbers (tree_of s)) p.range))
      (λ z. not_so (subst (λ n. is_in n (numbers (tree_of s)) ≡ true) z k) free)

  old-stays : tree_at (header_of s).levels (root_raised s i m) (header_of s).root ≡ tree_of s
  unfolding tree_of
  old-stays = tree-stays (header_of s).levels s (root_raised s i m) (header_of s).root old-kept

  old-number : number_of (tree_of s) ≡ (header_of s).root
  unfolding tree_of
  old-number = number_read (header_of s).levels s (header_of s).root

  raised_at : (k : ℕ) → (header_of s).levels ≡ k → 1 ≤ k → tree_at (k + 1) (root_raised s i m) i ≡ interior i (tree [] (tree_of s) end) (m ∷ [])
  raised_at zero q h = absurd (omega arith)
  raised_at (suc l) q h =
      let up : suc l + 1 ≡ suc (suc l) = omega arith in
      let levels : u16 s 8 + 1 ≡ suc (suc l) = let z = header-levels s in omega arith in
      ap (λ n. tree_at n (root_raised s i m) i) up
      ∙ root-reads l (root_raised s i m) i (header_of s).root (tree_of s) m
      (raised-new ∙ ap₂ (λ a b. root_page a b m) levels (sym (header-root s))) short old-number
      (ap (λ n. tree_at n (root_raised s i m) (header_of s).root) (sym q) ∙ old-stays)

  pub raised-tree : tree_of (root_raised s i m) ≡ interior i (tree [] (tree_of s) end) (m ∷ [])
  unfolding tree_of
  raised-tree =
      let p : SoundParts s = parts_of s e in
      ap (λ h. tree_at h.levels (root_raised s i m) h.root) raised-header
      ∙ ap (λ n. tree_at (n + 1) (root_raised s i m) i) (sym (header-levels s))
      ∙ raised_at (header_of s).levels refl p.levels_low

  -- with a level to spare, and a message that is sound for the root
  pub raised_is : u16 s 8 ≤ 7 → sound_message lowest highest m ≡ true → Appended s m (root_raised s i m)
  unfolding table_of
  raised_is seven w =
      let p : SoundParts s = parts_of s e in
      let n = raised-length in
      let t : tree_of (root_raised s i m) ≡ interior i (tree [] (tree_of s) end) (m ∷ []) = raised-tree in
      let k : nodes_of (length (root_raised s i m)) ≡ nodes_of (length s) = ap nodes_of n in
      let is : numbers (tree_of (root_raised s i m)) ≡ i ∷ numbers (tree_of s) = ap numbers t ∙ above-numbers i (tree_of s) m in
      let a = full in
      let b = half in
      record {
        size = n;
        but_live =
            of_parts (root_raised s i m)
            (record {
              laid =
                  ap header_laid_out raised-zero
                  ∙ laid-put (put (node_bytes s 0) 6 (u16_bytes i)) 8 (u16 s 8 + 1) (omega arith) (omega arith) (omega arith)
                  (laid-put (node_bytes s 0) 6 i (omega arith) (omega arith) (omega arith) p.laid);
              count = ap (λ x. x.count) raised-header ∙ p.count ∙ sym k;
              root_low = subst (λ x. 1 ≤ x.root) (sym raised-header) low;
              root_high = subst (λ x. x.root < nodes_of (length (root_raised s i m))) (sym raised-header) (subst (λ c. i < c) (sym k) high);
              levels_low = subst (λ x. 1 ≤ x.levels) (sym raised-header) (omega arith);
              levels_high = subst (λ x. x.levels ≤ 8) (sym raised-header) (omega arith);
              live_high =
                  subst (λ x. x.live ≤ nodes_of (length (root_raised s i m))) (sym raised-header) (subst (λ c. (header_of s).live ≤ c) (sym k) p.live_high);
              tree = ap (λ x. sound_tree x lowest highest) t ∙ above-sound i (tree_of s) m p.tree w;
              once = ap once is ∙ once_more i (numbers (tree_of s)) free p.once;
              range = ap₂ (λ c x. in_range c x) k is ∙ range-more (nodes_of (length s)) i (numbers (tree_of s)) low high p.range;
            });
        table = ap (λ x. rows x lowest highest) t ∙ above_rows i (tree_of s) m;
      }
