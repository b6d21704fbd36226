-- What two neighbouring children weigh is what image/Upkeep's `would_fit` counts, and what is written for both is the entries of `merged`.
use Rattle.std.specs.Prelude.{ℕ, zero, suc, ◌+◌, ◌-◌, ◌*◌, ◌≤◌, ◌<◌, ◌≡◌, refl, List, [], ◌∷◌, ◌++◌, Bool, true, false, ◌&&◌, cond, length, drop, ltb, leb}
use Rattle.image.specs.Prelude.{sym, ap, ap₂, subst, ◌∙◌, append_assoc, append-nil, false≢true, arith, length-append, drop-append-add, drop-append-le, leb-true, leb-false, le-leb, lt-leb, ltb-true, lt-ltb}
use Rattle.image.specs.Bytes.{before, begins, shared, u16}
use Rattle.image.specs.Entry.{Message, Entry, pair, child, message}
use Rattle.image.specs.Table.{Row}
use Rattle.image.specs.Image.{Tree, unread, leaf, interior, Forest, end, tree, tree_at, nodes_of}
use Rattle.image.specs.Upkeep.{no_message, pair_bytes, child_bytes, short_pivots, tree_bytes, tree_short, would_fit}
use Rattle.octets.specs.Order.{and_left, and_right, before-asym, shared-append}
use Rattle.octets.specs.Beginnings.{shared-left, shared-right, shared-most, begins-length}
use Rattle.laws.specs.Rising.{both}
use Rattle.laws.specs.LookupTable.{does-own}
use Rattle.laws.specs.Filter.{owned-begins}
use Rattle.laws.specs.Encode.{bytes_of_all}
use Rattle.laws.specs.Page.{number_of, pair_entries, child_entries, number_read}
use Rattle.laws.specs.Reading.Relative.{usable, usable_in, number-under}
use Rattle.laws.specs.Upkeep.Merge.{rewritten, repointed, followed, merged, Pair}
use Rattle.laws.specs.Upkeep.Size.{message_entries, entries_for, bytes-append, pairs-for-append as pairs-more, branches-for-append as branches-more}
use Rattle.laws.specs.Upkeep.Reading.{inside-entries, branches-for-forest as branches-for}
use Rattle.lookup.specs.Look.{listing, LeafAt, leaf-at, InteriorAt, interior-at, node-inside}
use Rattle.merge.specs.Laws.Joined.{prefixed, prefixed_all, weight, weights, node_weight, left_more, right_more, pair_fits, small_entry, small_entries, both_entries}
use Rattle.merge.specs.Laws.Weights.{weights-rise}
use Rattle.push.specs.Laws.LeafLaws.{pairs-entries}

-- THE SUM OF ALL WEIGHTS
unfoldable pub total : ℕ → List Entry → ℕ
total n [] = 0
total n (e ∷ es) = weight n e + total n es

pub record Totals (n : ℕ) (es : List Entry) (used : ℕ) : Type 0 where
  pub light : used + total n es ≤ 1016 → weights n es used ≡ used + total n es
  pub heavy : 1016 < used + total n es → 1016 < weights n es used

pub totals : (n : ℕ) (es : List Entry) (used : ℕ) → Totals n es used
unfolding total weights
totals n [] used = record { light = λ h. omega arith; heavy = λ h. omega arith }
totals n (e ∷ es) used = go (ltb 1016 used) refl (totals n es (used + weight n e))
  where
    go : (x : Bool) → ltb 1016 used ≡ x → Totals n es (used + weight n e) → Totals n (e ∷ es) used
    go true q ih =
        let o : 1016 < used = ltb-true 1016 used q in
        record { light = λ h. absurd (omega arith); heavy = λ h. rw q o }
    go false q ih =
        record {
          light = λ h. let z = ih.light (omega arith) in rw q (omega arith);
          heavy = λ h. let z = ih.heavy (omega arith) in rw q z;
        }

pub total-append : (n : ℕ) (es fs : List Entry) → total n (es ++ fs) ≡ total n es + total n fs
unfolding total
total-append n [] fs = omega arith
total-append n (e ∷ es) fs = let z = total-append n es fs in omega arith

-- ENTRIES REWRITTEN: J is lifted by both as one, L by the one whose entries these are
module _ (J L m : List ℕ) (grows : (k : List ℕ) → drop (length J) (L ++ k) ≡ m ++ k) where
  long : (k : List ℕ) → length (drop (length J) (L ++ k)) ≡ length m + length k
  long k = ap length (grows k) ∙ length-append m k

  pairs-grow : (rs : List Row) → prefixed_all m (pair_entries rs) ≡ pair_entries (rewritten J L rs)
  unfolding prefixed_all prefixed pair_entries rewritten
  pairs-grow [] = refl
  pairs-grow (r ∷ rs) = ap₂ (λ k l. pair k r.value ∷ l) (sym (grows r.key)) (pairs-grow rs)

  branches-grow : (f : Forest) → prefixed_all m (child_entries f) ≡ child_entries (repointed J L f)
  unfolding prefixed_all prefixed child_entries repointed
  branches-grow end = refl
  branches-grow (tree s t f) = ap₂ (λ k l. child (number_of t) k ∷ l) (sym (grows s)) (branches-grow f)

  pairs-total : (rs : List Row) → total (length m) (pair_entries rs) ≡ pair_bytes J L rs
  unfolding total weight pair_entries pair_bytes
  pairs-total [] = refl
  pairs-total (r ∷ rs) = ap₂ (λ a b. 6 + a + length r.value + b) (sym (long r.key)) (pairs-total rs)

  branches-total : (f : Forest) → small_entries (child_entries f) ≡ true → short_pivots J L f ≡ true → total (length m) (child_entries f) ≡ child_bytes J L f
  unfolding total weight child_entries child_bytes short_pivots small_entries small_entry
  branches-total end sm e = refl
  branches-total (tree s t f) sm e =
      let short : leb (length m + length s) 65 ≡ true = ap (λ z. leb z 65) (sym (long s)) ∙ and_left (leb (length (drop (length J) (L ++ s))) 65) _ e in
      let ok : leb (length m + length s) 65 && ltb (number_of t) 65536 ≡ true = both short (and_left (ltb (number_of t) 65536) _ sm) in
      let one : cond (leb (length m + length s) 65 && ltb (number_of t) 65536) (6 + (length m + length s)) 1017 ≡ 6 + (length m + length s) = rw ok in
      let rest = branches-total f (and_right (ltb (number_of t) 65536) _ sm) (and_right (leb (length (drop (length J) (L ++ s))) 65) _ e) in
      let z = long s in
      omega arith

  branches-heavy : (f : Forest) → short_pivots J L f ≡ false → 1016 < total (length m) (child_entries f)
  unfolding total weight child_entries short_pivots
  branches-heavy end e = absurd (false≢true (sym e))
  branches-heavy (tree s t f) e = go (leb (length (drop (length J) (L ++ s))) 65) refl (λ h. branches-heavy f h)
    where
      go : (x : Bool) → leb (length (drop (length J) (L ++ s))) 65 ≡ x → (short_pivots J L f ≡ false → 1016 < total (length m) (child_entries f))
          → 1016 < cond (leb (length m + length s) 65 && ltb (number_of t) 65536) (6 + (length m + length s)) 1017 + total (length m) (child_entries f)
      go true q ih = let h : short_pivots J L f ≡ false = rw q at e in let g = ih h in omega arith
      go false q ih = let z : leb (length m + length s) 65 ≡ false = ap (λ y. leb y 65) (sym (long s)) ∙ q in rw z (omega arith)

  -- a tree that may be joined, and one that may not
  pub tree-total : (t : Tree) → small_entries (entries_for t) ≡ true → no_message t && tree_short J L t ≡ true → total (length m) (entries_for t) ≡ tree_bytes J L t
  unfolding entries_for no_message tree_short tree_bytes message_entries
  tree-total (unread i) sm e = unfold total in refl
  tree-total (leaf i rs) sm e = pairs-total rs
  tree-total (interior i f []) sm e =
      ap (total (length m)) (append-nil (child_entries f)) ∙ branches-total f (ap small_entries (sym (append-nil (child_entries f))) ∙ sm) e
  tree-total (interior i f (n ∷ ns)) sm e = absurd (false≢true e)

  pub tree-heavy : (t : Tree) → no_message t && tree_short J L t ≡ false → 1016 < total (length m) (entries_for t)
  unfolding entries_for no_message tree_short message_entries
  tree-heavy (unread i) e = absurd (false≢true (sym e))
  tree-heavy (leaf i rs) e = absurd (false≢true (sym e))
  tree-heavy (interior i f []) e = subst (λ l. 1016 < total (length m) l) (sym (append-nil (child_entries f))) (branches-heavy f e)
  tree-heavy (interior i f (n ∷ ns)) e =
      let a = total-append (length m) (child_entries f) (message n ∷ message_entries ns) in
      let b : 1017 ≤ total (length m) (message n ∷ message_entries ns) = unfold total weight in omega arith in
      omega arith

-- THE ENTRIES OF BOTH
pub merged-entries : {t u : Tree} → Pair t u → (lo mid hi m n : List ℕ) → ((k : List ℕ) → drop (length (shared lo hi)) (shared lo mid ++ k) ≡ m ++ k)
    → ((k : List ℕ) → drop (length (shared lo hi)) (shared mid hi ++ k) ≡ n ++ k)
    → prefixed_all m (entries_for t) ++ prefixed_all n (entries_for u) ≡ entries_for (merged t u lo mid hi)
unfolding entries_for merged message_entries
merged-entries (Pair.leaves i j rs qs) lo mid hi m n g h =
    ap₂ (λ a b. a ++ b) (pairs-grow (shared lo hi) (shared lo mid) m g rs) (pairs-grow (shared lo hi) (shared mid hi) n h qs)
    ∙ sym (pairs-more (rewritten (shared lo hi) (shared lo mid) rs) (rewritten (shared lo hi) (shared mid hi) qs))
merged-entries (Pair.inners i j f k) lo mid hi m n g h =
    ap₂ (λ a b. a ++ b) (ap (prefixed_all m) (append-nil (child_entries f)) ∙ branches-grow (shared lo hi) (shared lo mid) m g f)
    (ap (prefixed_all n) (append-nil (child_entries k)) ∙ branches-grow (shared lo hi) (shared mid hi) n h k)
    ∙ sym (branches-more (repointed (shared lo hi) (shared lo mid) f) (repointed (shared lo hi) (shared mid hi) k))
    ∙ sym (append-nil (child_entries (followed (repointed (shared lo hi) (shared lo mid) f) (repointed (shared lo hi) (shared mid hi) k))))

pub lists-tree : (s : List ℕ) (i level : ℕ) → usable (nodes_of (length s)) (tree_at level s i) ≡ true → listing s i ≡ entries_for (tree_at level s i)
unfolding entries_for
lists-tree s i zero u = absurd (false≢true (unfold tree_at usable in u))
lists-tree s i (suc zero) u =
    let a : LeafAt s i 1 = leaf-at s i 1 (omega arith) u in
    a.node.lists ∙ pairs-entries a.es a.rs a.pairs ∙ sym (ap entries_for a.tree)
lists-tree s i (suc (suc l)) u =
    let a : InteriorAt s i (suc (suc l)) (suc (suc l) - 1) = interior-at s i (suc (suc l)) (omega arith) u in
    a.node.lists ∙ inside-entries a.es a.x a.splits
    ∙ ap (λ es. es ++ message_entries a.x.messages) (sym (branches-for (λ j. tree_at (suc (suc l) - 1) s j) (λ j. number_read (suc (suc l) - 1) s j) a.x.branches))
    ∙ sym (ap entries_for a.tree)

messages-small : (ns : List Message) → small_entries (message_entries ns) ≡ true
unfolding message_entries small_entries small_entry
messages-small [] = refl
messages-small (m ∷ ns) = messages-small ns

branches-small : (n : ℕ) (f : Forest) (ms : List Message) → n ≤ 1024 → usable_in n f ≡ true → small_entries (child_entries f ++ message_entries ms) ≡ true
unfolding usable_in child_entries small_entries small_entry
branches-small n end ms h u = messages-small ms
branches-small n (tree s t f) ms h u =
    let a = number-under n t (and_left (usable n t) _ u) in
    both (lt-ltb (number_of t) 65536 (omega arith)) (branches-small n f ms h (and_right (usable n t) _ u))

pairs_small : (rs : List Row) → small_entries (pair_entries rs) ≡ true
unfolding pair_entries small_entries small_entry
pairs_small [] = refl
pairs_small (r ∷ rs) = pairs_small rs

pub tree-small : (n : ℕ) (t : Tree) → n ≤ 1024 → usable n t ≡ true → small_entries (entries_for t) ≡ true
unfolding entries_for usable
tree-small n (unread i) h u = absurd (false≢true u)
tree-small n (leaf i rs) h u = pairs_small rs
tree-small n (interior i f ms) h u = branches-small n f ms h (and_right (ltb i n) _ u)

-- WHAT A NODE WEIGHS
pub node-total : (n : ℕ) (s : List ℕ) (i level used : ℕ) → usable (nodes_of (length s)) (tree_at level s i) ≡ true → node_weight n s i used ≡ weights n (entries_for (tree_at level s i)) used
unfolding node_weight
node-total n s i level used u =
    let a = number-under (nodes_of (length s)) (tree_at level s i) u in
    let e = number_read level s i in
    let b : ltb i (nodes_of (length s)) ≡ true = lt-ltb i (nodes_of (length s)) (omega arith) in
    let c : leb (u16 s (i * 1024)) 1016 ≡ true = le-leb (u16 s (i * 1024)) 1016 (node-inside s i level u).1 in
    ap (λ x. cond x (weights n (listing s i) used) 1017) (both b c) ∙ ap (λ es. weights n es used) (lists-tree s i level u)

-- TWO NEIGHBOURS with the pivots `prefix` ++ lo, `prefix` ++ mid, `prefix` ++ hi
module _ (prefix lo mid hi : List ℕ) (rises : before lo mid ≡ true) (goes : before mid hi ≡ true) where
  mid-begins : begins (shared lo hi) mid ≡ true
  mid-begins = owned-begins lo hi mid (does-own lo hi mid (before-asym lo mid rises) goes)

  left_less : length (shared lo hi) ≤ length (shared lo mid)
  left_less = begins-length (shared lo hi) (shared lo mid) (shared-most (shared lo hi) lo mid (shared-left lo hi) mid-begins)

  right-less : length (shared lo hi) ≤ length (shared mid hi)
  right-less = begins-length (shared lo hi) (shared mid hi) (shared-most (shared lo hi) mid hi mid-begins (shared-right lo hi))

  under-prefix : (own k : List ℕ) → length (shared lo hi) ≤ length own → drop (length (prefix ++ shared lo hi)) ((prefix ++ own) ++ k) ≡ drop (length (shared lo hi)) own ++ k
  under-prefix own k h =
      ap₂ (λ n l. drop n l) (length-append prefix (shared lo hi)) (append_assoc prefix own k)
      ∙ drop-append-add prefix (own ++ k) (length (shared lo hi)) ∙ drop-append-le (length (shared lo hi)) own k h

  pub left-grows : (k : List ℕ) → drop (length (shared (prefix ++ lo) (prefix ++ hi))) (shared (prefix ++ lo) (prefix ++ mid) ++ k) ≡ left_more lo mid hi ++ k
  unfolding left_more
  left-grows k = ap₂ (λ a b. drop (length a) (b ++ k)) (shared-append prefix lo hi) (shared-append prefix lo mid) ∙ under-prefix (shared lo mid) k left_less

  pub right-grows : (k : List ℕ) → drop (length (shared (prefix ++ lo) (prefix ++ hi))) (shared (prefix ++ mid) (prefix ++ hi) ++ k) ≡ right_more lo mid hi ++ k
  unfolding right_more
  right-grows k = ap₂ (λ a b. drop (length a) (b ++ k)) (shared-append prefix lo hi) (shared-append prefix mid hi) ∙ under-prefix (shared mid hi) k right-less

  module _ (s : List ℕ) (level a b : ℕ) (few : nodes_of (length s) ≤ 1024) (ua : usable (nodes_of (length s)) (tree_at level s a) ≡ true)
      (ub : usable (nodes_of (length s)) (tree_at level s b) ≡ true) where
    abbrev J : List ℕ
    J = shared (prefix ++ lo) (prefix ++ hi)

    abbrev L₁ : List ℕ
    L₁ = shared (prefix ++ lo) (prefix ++ mid)

    abbrev L₂ : List ℕ
    L₂ = shared (prefix ++ mid) (prefix ++ hi)

    abbrev t : Tree
    t = tree_at level s a

    abbrev u : Tree
    u = tree_at level s b

    abbrev one : ℕ
    one = weights (length (left_more lo mid hi)) (entries_for t) 0

    abbrev two : ℕ
    two = weights (length (right_more lo mid hi)) (entries_for u) one

    fits-is : pair_fits s a b lo mid hi ≡ leb two 1016
    unfolding pair_fits
    fits-is =
        ap (λ z. leb z 1016)
        (node-total (length (right_more lo mid hi)) s b level (node_weight (length (left_more lo mid hi)) s a 0) ub
        ∙ ap (weights (length (right_more lo mid hi)) (entries_for u)) (node-total (length (left_more lo mid hi)) s a level 0 ua))

    one-heavy : 1016 < one → leb two 1016 ≡ false
    one-heavy h = let z = weights-rise (length (right_more lo mid hi)) (entries_for u) one in lt-leb two 1016 (omega arith)

    -- both may be joined: the sums decide
    both-good : no_message t && tree_short J L₁ t ≡ true → no_message u && tree_short J L₂ u ≡ true → leb two 1016 ≡ leb (tree_bytes J L₁ t + tree_bytes J L₂ u) 1016
    both-good gt gu =
        let x = tree-total J L₁ (left_more lo mid hi) left-grows t (tree-small (nodes_of (length s)) t few ua) gt in
        let y = tree-total J L₂ (right_more lo mid hi) right-grows u (tree-small (nodes_of (length s)) u few ub) gu in
        let p = totals (length (left_more lo mid hi)) (entries_for t) 0 in
        go (leb (tree_bytes J L₁ t) 1016) refl x y p
      where
        go : (z : Bool) → leb (tree_bytes J L₁ t) 1016 ≡ z → total (length (left_more lo mid hi)) (entries_for t) ≡ tree_bytes J L₁ t
            → total (length (right_more lo mid hi)) (entries_for u) ≡ tree_bytes J L₂ u → Totals (length (left_more lo mid hi)) (entries_for t) 0
            → leb two 1016 ≡ leb (tree_bytes J L₁ t + tree_bytes J L₂ u) 1016
        go false q x y p =
            let h = leb-false (tree_bytes J L₁ t) 1016 q in
            one-heavy (p.heavy (omega arith)) ∙ sym (lt-leb (tree_bytes J L₁ t + tree_bytes J L₂ u) 1016 (omega arith))
        go true q x y p =
            let h = leb-true (tree_bytes J L₁ t) 1016 q in
            let o : one ≡ tree_bytes J L₁ t = let z = p.light (omega arith) in omega arith in
            last (leb (tree_bytes J L₁ t + tree_bytes J L₂ u) 1016) refl o y (totals (length (right_more lo mid hi)) (entries_for u) one)
          where
            last : (z : Bool) → leb (tree_bytes J L₁ t + tree_bytes J L₂ u) 1016 ≡ z → one ≡ tree_bytes J L₁ t → total (length (right_more lo mid hi)) (entries_for u) ≡ tree_bytes J L₂ u
                → Totals (length (right_more lo mid hi)) (entries_for u) one → leb two 1016 ≡ leb (tree_bytes J L₁ t + tree_bytes J L₂ u) 1016
            last true w o y r =
                let h = leb-true (tree_bytes J L₁ t + tree_bytes J L₂ u) 1016 w in
                let z = r.light (omega arith) in
                le-leb two 1016 (omega arith) ∙ sym w
            last false w o y r =
                let h = leb-false (tree_bytes J L₁ t + tree_bytes J L₂ u) 1016 w in
                lt-leb two 1016 (r.heavy (omega arith)) ∙ sym w

    left-bad : no_message t && tree_short J L₁ t ≡ false → leb two 1016 ≡ false
    left-bad g = let h = tree-heavy J L₁ (left_more lo mid hi) left-grows t g in one-heavy ((totals (length (left_more lo mid hi)) (entries_for t) 0).heavy (omega arith))

    right-bad : no_message u && tree_short J L₂ u ≡ false → leb two 1016 ≡ false
    right-bad g =
        let h = tree-heavy J L₂ (right_more lo mid hi) right-grows u g in
        lt-leb two 1016 ((totals (length (right_more lo mid hi)) (entries_for u) one).heavy (omega arith))

    arrange : (a₁ b₁ c d e : Bool) → a₁ && b₁ && c && d && e ≡ (a₁ && d) && (b₁ && e) && c
    arrange true true true true true = refl
    arrange true true true true false = refl
    arrange true true true false true = refl
    arrange true true true false false = refl
    arrange true true false true true = refl
    arrange true true false true false = refl
    arrange true true false false true = refl
    arrange true true false false false = refl
    arrange true false c true e = refl
    arrange true false c false e = refl
    arrange false b₁ c d e = refl

    pub fits-would : pair_fits s a b lo mid hi ≡ would_fit t u (prefix ++ lo) (prefix ++ mid) (prefix ++ hi)
    unfolding would_fit
    fits-would =
        fits-is ∙ go (no_message t && tree_short J L₁ t) refl (no_message u && tree_short J L₂ u) refl
        ∙ sym (arrange (no_message t) (no_message u) (leb (tree_bytes J L₁ t + tree_bytes J L₂ u) 1016) (tree_short J L₁ t) (tree_short J L₂ u))
      where
        go : (x : Bool) → no_message t && tree_short J L₁ t ≡ x → (y : Bool) → no_message u && tree_short J L₂ u ≡ y
            → leb two 1016 ≡ (no_message t && tree_short J L₁ t) && (no_message u && tree_short J L₂ u) && leb (tree_bytes J L₁ t + tree_bytes J L₂ u) 1016
        go true p true q = both-good p q ∙ sym (ap₂ (λ x y. x && y && leb (tree_bytes J L₁ t + tree_bytes J L₂ u) 1016) p q)
        go true p false q = right-bad q ∙ sym (ap₂ (λ x y. x && y && leb (tree_bytes J L₁ t + tree_bytes J L₂ u) 1016) p q)
        go false p y q = left-bad p ∙ sym (ap₂ (λ x z. x && z && leb (tree_bytes J L₁ t + tree_bytes J L₂ u) 1016) p q)

    -- what is written for both
    pub both-merged : Pair t u → both_entries s a b lo mid hi ≡ bytes_of_all (entries_for (merged t u (prefix ++ lo) (prefix ++ mid) (prefix ++ hi)))
    unfolding both_entries
    both-merged p =
        ap₂ (λ x y. bytes_of_all (prefixed_all (left_more lo mid hi) x) ++ bytes_of_all (prefixed_all (right_more lo mid hi) y)) (lists-tree s a level ua) (lists-tree s b level ub)
        ∙ sym (bytes-append (prefixed_all (left_more lo mid hi) (entries_for t)) (prefixed_all (right_more lo mid hi) (entries_for u)))
        ∙ ap bytes_of_all (merged-entries p (prefix ++ lo) (prefix ++ mid) (prefix ++ hi) (left_more lo mid hi) (right_more lo mid hi) left-grows right-grows)
