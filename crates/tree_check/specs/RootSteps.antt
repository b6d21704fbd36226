-- The exits of the check of node 0 and of the check of an image.
-- Relies on Whole, and on laws/Reading's law of the walk from the root with no mark set (`visit-root`).
use Rattle.std.specs.Prelude.{ℕ, ◌+◌, ◌*◌, ◌<◌, ◌≤◌, ◌≡◌, refl, List, [], ◌∷◌, Bool, true, false, ◌&&◌, ◌||◌, cond, length, drop, get_or, set, ltb, leb, eqb, is_some, None, Some}
use Rattle.image.specs.Prelude.{sym, ap, ap₂, subst, ◌∙◌, and-true, none, some, arith, length-set, length-replicate, get_or-set_same, get_or-set_other, lt-ltb, le-ltb, le-leb, lt-leb, eq-eqb, ne_eqb, eqb-true, eqb-false, ltb-true}
use Rattle.image.specs.Bytes.{u16, zeros}
use Rattle.image.specs.Image.{Tree, node_bytes, nodes_of, header, header_of, header_laid_out, tree_at, tree_of}
use Rattle.image.specs.Sound.{sound_tree, sound_header, once, in_range, numbers, is_in, lowest, highest}
use Rattle.octets.specs.Order.{and-false, and_left, and_right}
use Rattle.path.specs.Shape.{fresh}
use Rattle.laws.specs.Reading.Visit.{mark, mark_all, visit, blank, zero-at, visit-root}
use Rattle.path.specs.Fed.{Shape, shape_is}
use Rattle.node.specs.Cut.{cut, cut-drop}
use Rattle.lookup.specs.Look.{node-is}
use Rattle.lookup.specs.Root.{first-u16}
use Rattle.tree_check.specs.Answer.{Checked}
use Rattle.tree_check.specs.Count.{count_of}
use Rattle.tree_check.specs.Answer.{out, Counts, Checks}
use Rattle.laws.specs.ButLive.{sound_head, sound_nodes, sound_but_live}
use Rattle.tree_check.specs.Whole.{Marks, Marked, Verified}

-- node 0, by its words in the store
module _ (s : List ℕ) (long : 1024 ≤ length s) (n : ℕ) (en : n ≡ nodes_of (length s)) (len kind count root levels live : ℕ)
    (e0 : len ≡ u16 s 0) (e2 : kind ≡ u16 s 2) (e4 : count ≡ u16 s 4) (e6 : root ≡ u16 s 6) (e8 : levels ≡ u16 s 8) (e10 : live ≡ u16 s 10) where
  word : (k w : ℕ) → k + 1 < 1024 → w ≡ u16 s k → u16 (node_bytes s 0) k ≡ w
  word k w h e = first-u16 s k long h ∙ sym e

  rest : drop 12 (node_bytes s 0) ≡ cut s 12 1024
  rest =
      let a : 0 * 1024 + 12 ≡ 12 = omega arith in
      ap (λ l. drop 12 l) (node-is s 0 (omega arith)) ∙ cut-drop s (0 * 1024) (0 * 1024 + 1024) 12 (omega arith)

  laid-is : header_laid_out (node_bytes s 0) ≡ eqb len 8 && eqb kind 0x0100 && zeros (cut s 12 1024)
  unfolding header_laid_out
  laid-is = rw (word 0 len (omega arith) e0, word 2 kind (omega arith) e2, rest)

  head-is : sound_header (nodes_of (length s)) (header_of s) ≡ eqb count n && leb 1 root && ltb root n && leb 1 levels && leb levels 8 && leb live n
  unfolding sound_header header_of header
  head-is = rw (word 4 count (omega arith) e4, word 6 root (omega arith) e6, word 8 levels (omega arith) e8, word 10 live (omega arith) e10, ← en)

  abbrev A : Bool
  A = eqb len 8 && eqb kind 0x0100 && zeros (cut s 12 1024)

  abbrev B : Bool
  B = eqb count n && leb 1 root && ltb root n && leb 1 levels && leb levels 8 && leb live n

  whole : A && B ≡ sound_head s
  unfolding sound_head
  whole = ap₂ (λ a b. a && b) (sym laid-is) (sym head-is)

  a-no : A ≡ false → false ≡ sound_head s
  a-no e = (rw e) ∙ whole

  b-no : B ≡ false → false ≡ sound_head s
  b-no e = sym (ap (λ b. A && b) e ∙ and-false A) ∙ whole

  pub other_length : (len ≡ 8 → ⊥) → false ≡ sound_head s
  other_length h = a-no (rw (ne_eqb len 8 h))

  pub other-kind : (kind ≡ 256 → ⊥) → false ≡ sound_head s
  other-kind h = a-no (rw (ne_eqb kind 0x0100 h) (no (eqb len 8)))
    where
      no : (a : Bool) → a && false && zeros (cut s 12 1024) ≡ false
      no true = refl
      no false = refl

  pub other-count : (count ≡ n → ⊥) → false ≡ sound_head s
  other-count h = b-no (rw (ne_eqb count n h))

  module _ (c : count ≡ n) where
    pub root-low : root < 1 → false ≡ sound_head s
    root-low h = b-no (rw (eq-eqb count n c, lt-leb 1 root h))

    module _ (r : 1 ≤ root) where
      pub root-past : n ≤ root → false ≡ sound_head s
      root-past h = b-no (rw (eq-eqb count n c, le-leb 1 root r, le-ltb root n h))

      module _ (q : root < n) where
        pub no-level : levels < 1 → false ≡ sound_head s
        no-level h = b-no (rw (eq-eqb count n c, le-leb 1 root r, lt-ltb root n q, lt-leb 1 levels h))

        module _ (l : 1 ≤ levels) where
          pub many-levels : 8 < levels → false ≡ sound_head s
          many-levels h = b-no (rw (eq-eqb count n c, le-leb 1 root r, lt-ltb root n q, le-leb 1 levels l, lt-leb levels 8 h))

          module _ (m : levels ≤ 8) where
            pub many-live : n < live → false ≡ sound_head s
            many-live h = b-no (rw (eq-eqb count n c, le-leb 1 root r, lt-ltb root n q, le-leb 1 levels l, le-leb levels 8 m, lt-leb live n h))

            pub head-rest : live ≤ n → len ≡ 8 → kind ≡ 256 → (b : Bool) → b ≡ zeros (cut s 12 1024) → b ≡ sound_head s
            head-rest h a k b e =
                e ∙ sym (ap₂ (λ x y. x && y)
                (both_yes (zeros (cut s 12 1024)))
                (all_yes (zeros (cut s 12 1024)))
                ∙ and-true (zeros (cut s 12 1024))) ∙ whole
              where
                both_yes : (z : Bool) → A ≡ zeros (cut s 12 1024)
                both_yes z = rw (eq-eqb len 8 a, eq-eqb kind 0x0100 k)

                all_yes : (z : Bool) → B ≡ true
                all_yes z = rw (eq-eqb count n c, le-leb 1 root r, lt-ltb root n q, le-leb 1 levels l, le-leb levels 8 m, le-leb live n h)

-- a mark for each number, and no other
pub marked-at : (n : ℕ) (seen is : List ℕ) → n ≤ length seen → in_range n is ≡ true → (j : ℕ) → get_or (mark_all seen is) j 0 ≡ cond (is_in j is) 1 (get_or seen j 0)
unfolding mark_all in_range is_in mark
marked-at n seen [] h e j = refl
marked-at n seen (i ∷ is) h e j =
    let l : i < n = ltb-true i n (and_right (leb 1 i) (ltb i n) (and_left (leb 1 i && ltb i n) (in_range n is) e)) in
    let s : length (set seen i 1) ≡ length seen = length-set seen i 1 in
    let ih : get_or (mark_all (set seen i 1) is) j 0 ≡ cond (is_in j is) 1 (get_or (set seen i 1) j 0)
    = marked-at n (set seen i 1) is (omega arith) (and_right (leb 1 i && ltb i n) (in_range n is) e) j in
    ih ∙ go (omega arith) (eqb j i) refl
  where
    same-one : (b : Bool) → ◌≡◌ {A = ℕ} (cond b 1 1) 1
    same-one true = refl
    same-one false = refl

    go : i < length seen → (b : Bool) → eqb j i ≡ b → cond (is_in j is) 1 (get_or (set seen i 1) j 0) ≡ cond (eqb j i || is_in j is) 1 (get_or seen j 0)
    go l true q =
        let p : j ≡ i = eqb-true j i q in
        let g : get_or (set seen i 1) j 0 ≡ 1 = ap (λ k. get_or (set seen i 1) k 0) p ∙ get_or-set_same seen i 1 0 l in
        rw (q, g) (same-one (is_in j is))
    go l false q =
        let g : get_or (set seen i 1) j 0 ≡ get_or seen j 0 = get_or-set_other seen i j 1 0 (eqb-false j i q) in
        rw (q, g)

-- the image
module _ (s : List ℕ) where
  head-no : sound_head s ≡ false → false ≡ sound_but_live s
  unfolding sound_but_live
  head-no e = rw e

  head-yes : sound_head s ≡ true → sound_nodes s ≡ sound_but_live s
  unfolding sound_but_live
  head-yes e = rw e

  pub bad-head : (b : Bool) → b ≡ sound_head s → b ≡ false → (seen : List ℕ) → Verified s None seen
  unfolding Counts Marked
  bad-head b e f seen = record { answer = head-no (sym e ∙ f); counts = tt; marks = tt }

  pub root-tree : 1024 ≤ length s → (root levels : ℕ) → root ≡ u16 s 6 → levels ≡ u16 s 8 → tree_at levels s root ≡ tree_of s
  unfolding tree_of header_of header
  root-tree long root levels a b =
      ap₂ (λ x y. tree_at x s y) (b ∙ sym (first-u16 s 8 long (omega arith))) (a ∙ sym (first-u16 s 6 long (omega arith)))

  nodes-are : sound_tree (tree_of s) lowest highest && (in_range (nodes_of (length s)) (numbers (tree_of s)) && once (numbers (tree_of s))) ≡ sound_nodes s
  unfolding sound_nodes
  nodes-are = turn (sound_tree (tree_of s) lowest highest) (in_range (nodes_of (length s)) (numbers (tree_of s))) (once (numbers (tree_of s)))
    where
      turn : (a b c : Bool) → a && (b && c) ≡ a && c && b
      turn true true true = refl
      turn true true false = refl
      turn true false true = refl
      turn true false false = refl
      turn false b c = refl

  -- an answer of the walk, read
  from_out : (r : Checked) (seen M : List ℕ) (b : Bool) → out r seen ≡ cond b (some M) none → is_some r ≡ b
  unfolding out
  from_out None seen M true e = let z : ◌≡◌ {A = ℕ} 0 1 = cc in absurd (omega arith)
  from_out None seen M false e = refl
  from_out (Some t) seen M true e = refl
  from_out (Some t) seen M false e = let z : ◌≡◌ {A = ℕ} 0 1 = cc in absurd (omega arith)

  range-of : sound_nodes s ≡ true → in_range (nodes_of (length s)) (numbers (tree_of s)) ≡ true
  unfolding sound_nodes
  range-of e = and_right (sound_tree (tree_of s) lowest highest && once (numbers (tree_of s))) (in_range (nodes_of (length s)) (numbers (tree_of s))) e

  -- every number of the tree is marked, where none was
  pub marks-all : (seen : List ℕ) (m : ℕ) → nodes_of (length s) ≤ m → in_range (nodes_of (length s)) (numbers (tree_of s)) ≡ true
      → seen ≡ mark_all (blank m) (numbers (tree_of s)) → Marks s seen
  marks-all seen m h r p =
      let l : length (blank m) ≡ m = length-replicate {A = ℕ} m 0 in
      record {
        marked = λ i lt. ap (λ x. get_or x i 0) p ∙ marked-at (nodes_of (length s)) (blank m) (numbers (tree_of s)) (omega arith) r i
            ∙ ap (λ x. cond (is_in i (numbers (tree_of s))) 1 x) (zero-at m i);
      }

  marks-at : (seen : List ℕ) (m : ℕ) → nodes_of (length s) ≤ m → some seen ≡ cond (sound_nodes s) (some (mark_all (blank m) (numbers (tree_of s)))) none → Marks s seen
  marks-at seen m h e = go (sound_nodes s) refl
    where
      go : (b : Bool) → sound_nodes s ≡ b → Marks s seen
      go true f =
          let q : some seen ≡ some (mark_all (blank m) (numbers (tree_of s))) = rw f at e in
          marks-all seen m h (range-of f) (cc)
      go false f =
          let q : some seen ≡ none = rw f at e in
          let z : ◌≡◌ {A = ℕ} 0 1 = cc in absurd (omega arith)

  marks-of : (r : Checked) (seen : List ℕ) (m : ℕ) → nodes_of (length s) ≤ m → out r seen ≡ cond (sound_nodes s) (some (mark_all (blank m) (numbers (tree_of s)))) none → Marked s seen r
  unfolding out Marked
  marks-of None seen m h e = tt
  marks-of (Some t) seen m h e = marks-at seen m h e

  pub from-root : 1024 ≤ length s → (b : Bool) → b ≡ sound_head s → b ≡ true → (m : ℕ) → nodes_of (length s) ≤ m → (blanks : List ℕ) → blanks ≡ blank m
      → (root levels : ℕ) → root ≡ u16 s 6 → levels ≡ u16 s 8 → (begun : Shape) → shape_is begun ≡ fresh → (r : Checked) (seen : List ℕ)
      → Checks (visit (tree_at levels s root) (nodes_of (length s)) (shape_is begun) [] (255 ∷ []) blanks) (count_of (tree_at levels s root)) r seen → Verified s r seen
  from-root long b eb fb m hm blanks ebl root levels er el begun start-shape r seen h =
      let t : tree_at levels s root ≡ tree_of s = root-tree long root levels er el in
      let w : out r seen ≡ cond (sound_tree (tree_of s) [] (255 ∷ []) && (in_range (nodes_of (length s)) (numbers (tree_of s)) && once (numbers (tree_of s)))) (some (mark_all (blank m) (numbers (tree_of s)))) none
      = h.marks
      ∙ ap₂ (λ x y. visit (tree_at levels s root) (nodes_of (length s)) x [] (255 ∷ []) y) start-shape ebl
      ∙ ap (λ x. visit x (nodes_of (length s)) fresh [] (255 ∷ []) (blank m)) t
      ∙ visit-root (tree_of s) (nodes_of (length s)) m (255 ∷ []) hm in
      let v : out r seen ≡ cond (sound_nodes s) (some (mark_all (blank m) (numbers (tree_of s)))) none
      = w ∙ ap (λ x. cond x (some (mark_all (blank m) (numbers (tree_of s)))) none) nodes-are in
      record {
        answer = from_out r seen (mark_all (blank m) (numbers (tree_of s))) (sound_nodes s) v ∙ head-yes (sym eb ∙ fb);
        counts = subst (λ (x : Tree). Counts (count_of x) r) t h.counts;
        marks = marks-of r seen m hm v;
      }
