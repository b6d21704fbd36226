-- A leaf that took messages reads as the leaf whose pairs are those after the messages: `leaf-takes`.
-- Relies on LeafRoom for sizes and on ReadBack for pages.
use Rattle.std.specs.Prelude.{ℕ, ◌+◌, ◌*◌, ◌≤◌, ◌≡◌, refl, List, [], ◌∷◌, ◌++◌, Bool, true, false, not, cond, length}
use Rattle.image.specs.Prelude.{sym, ap, subst, ◌∙◌, false≢true, Option, none, some, Option·some-injective, Option·none-ne-some, arith}
use Rattle.image.specs.Bytes.{u16, same, before, begins, shared}
use Rattle.image.specs.Path.{below}
use Rattle.image.specs.Entry.{Message, puts, drops, clears, Entry, pair, child, message, entries_of}
use Rattle.image.specs.Table.{Row, with_row, without, without_below, every_key, leads, rising}
use Rattle.image.specs.Image.{Tree, unread, leaf, interior, entry_bytes, node_bytes, node_entries, pair_then, pairs_of, or_none, leaf_of, tree_at}
use Rattle.image.specs.Meaning.{apply, apply_all}
use Rattle.octets.specs.Order.{and_left, and_right, not-true, not-false, same-eq, before-asym, before-irrefl, before-total}
use Rattle.laws.specs.Encode.{bytes_of, bytes_of_all, all_back}
use Rattle.laws.specs.Rising.{both}
use Rattle.laws.specs.RowsRising.{rising-apply}
use Rattle.laws.specs.PushDown.{touches}
use Rattle.laws.specs.Page.{page, pair_entries, pairs-back, pairs-allowed}
use Rattle.laws.specs.Upkeep.Merge.{tall}
use Rattle.node.specs.Entries.{listed, list_of, all_listed}
use Rattle.lookup.specs.Look.{listing, count-is, bytes-is}
use Rattle.push.specs.Laws.Arriving.{waiting, lowered_by, arriving}
use Rattle.push.specs.Laws.ArrivingLaws.{taken_all, leaf-taken}
use Rattle.push.specs.Laws.Leaves.{kept, pairs_after, applied, leaf_takes_one, leaf_takes}
use Rattle.push.specs.Laws.Written.{has_room}
use Rattle.push.specs.Laws.Only.{room-inside}
use Rattle.push.specs.Laws.LeafRoom.{after-fits, applied-same, one-taken, one-fits}
use Rattle.push.specs.Laws.ReadBack.{page-reads, Laid, laid}
use Rattle.laws.specs.Follow.{leads-on}
use Rattle.laws.specs.Filter.{rises-all}

kept_all : (test : List ℕ → Bool) (t : List Row) → every_key test t ≡ true → kept test (pair_entries t) ≡ pair_entries t
unfolding kept pair_entries every_key
kept_all test [] e = refl
kept_all test (r ∷ t) e = rw (and_left (test r.key) _ e) (ap (λ l. pair r.key r.value ∷ l) (kept_all test t (and_right (test r.key) _ e)))

kept-none : (test : List ℕ → Bool) (t : List Row) → every_key (λ q. not (test q)) t ≡ true → kept test (pair_entries t) ≡ []
unfolding kept pair_entries every_key
kept-none test [] e = refl
kept-none test (r ∷ t) e = rw (not-true (test r.key) (and_left _ _ e)) (kept-none test t (and_right (not (test r.key)) _ e))

not_back : (k : List ℕ) (t : List Row) → every_key (λ q. before k q) t ≡ true → every_key (λ q. not (before q k)) t ≡ true
unfolding every_key
not_back k [] e = refl
not_back k (r ∷ t) e =
    both (not-false (before r.key k) (before-asym k r.key (and_left (before k r.key) _ e))) (not_back k t (and_right (before k r.key) _ e))

with-pairs : (p v : List ℕ) (t : List Row) → rising t ≡ true
    → kept (λ q. before q p) (pair_entries t) ++ pair p v ∷ kept (λ q. before p q) (pair_entries t) ≡ pair_entries (with_row p v t)
unfolding with_row kept pair_entries rising
with-pairs p v [] e = refl
with-pairs p v (r ∷ t) e = go (before r.key p) refl (same p r.key) refl (with-pairs p v t (and_right (leads r.key t) _ e))
  where
    after : every_key (λ q. before r.key q) t ≡ true
    after = rises-all r.key t (and_left _ _ e) (and_right (leads r.key t) _ e)

    go : (a : Bool) → before r.key p ≡ a → (b : Bool) → same p r.key ≡ b
        → kept (λ q. before q p) (pair_entries t) ++ pair p v ∷ kept (λ q. before p q) (pair_entries t) ≡ pair_entries (with_row p v t)
        → cond (before r.key p) (pair r.key r.value ∷ kept (λ q. before q p) (pair_entries t)) (kept (λ q. before q p) (pair_entries t))
        ++ pair p v ∷ cond (before p r.key) (pair r.key r.value ∷ kept (λ q. before p q) (pair_entries t)) (kept (λ q. before p q) (pair_entries t))
        ≡ pair_entries (cond (before r.key p) (r ∷ with_row p v t)
        (cond (same p r.key) (record { key = p; value = v } ∷ t) (record { key = p; value = v } ∷ r ∷ t)))
    go true f b g ih = rw (f, before-asym r.key p f) (ap (λ l. pair r.key r.value ∷ l) ih)
    go false f true g ih =
        let eq : p ≡ r.key = same-eq p r.key g in
        let here : before p r.key ≡ false = ap (λ q. before q r.key) eq ∙ before-irrefl r.key in
        let all : every_key (λ q. before p q) t ≡ true = subst (λ k. every_key (λ q. before k q) t ≡ true) (sym eq) after in
        rw (f, g, here, kept-none (λ q. before q p) t (not_back p t all), kept_all (λ q. before p q) t all)
    go false f false g ih =
        let here : before p r.key ≡ true = before-total p r.key g f in
        let all : every_key (λ q. before p q) t ≡ true = rises-all p t (leads-on p r t here (and_left _ _ e)) (and_right (leads r.key t) _ e) in
        rw (f, g, here, kept-none (λ q. before q p) t (not_back p t all), kept_all (λ q. before p q) t all)

without-pairs : (p : List ℕ) (t : List Row) → kept (λ q. not (same p q)) (pair_entries t) ≡ pair_entries (without p t)
unfolding without kept pair_entries
without-pairs p [] = refl
without-pairs p (r ∷ t) = go (same p r.key) refl (without-pairs p t)
  where
    go : (a : Bool) → same p r.key ≡ a → kept (λ q. not (same p q)) (pair_entries t) ≡ pair_entries (without p t)
        → cond (not (same p r.key)) (pair r.key r.value ∷ kept (λ q. not (same p q)) (pair_entries t)) (kept (λ q. not (same p q)) (pair_entries t))
        ≡ pair_entries (cond (same p r.key) (without p t) (r ∷ without p t))
    go true f ih = rw f ih
    go false f ih = rw f (ap (λ l. pair r.key r.value ∷ l) ih)

cleared-pairs : (p : List ℕ) (t : List Row) → kept (λ q. not (begins p q)) (pair_entries t) ≡ pair_entries (without_below p t)
unfolding without_below kept pair_entries below
cleared-pairs p [] = refl
cleared-pairs p (r ∷ t) = go (begins p r.key) refl (cleared-pairs p t)
  where
    go : (a : Bool) → begins p r.key ≡ a → kept (λ q. not (begins p q)) (pair_entries t) ≡ pair_entries (without_below p t)
        → cond (not (begins p r.key)) (pair r.key r.value ∷ kept (λ q. not (begins p q)) (pair_entries t)) (kept (λ q. not (begins p q)) (pair_entries t))
        ≡ pair_entries (cond (begins p r.key) (without_below p t) (r ∷ without_below p t))
    go true f ih = rw f ih
    go false f ih = rw f (ap (λ l. pair r.key r.value ∷ l) ih)

after-apply : (m : Message) (t : List Row) → rising t ≡ true → pairs_after m (pair_entries t) ≡ pair_entries (apply [] m t)
unfolding pairs_after apply
after-apply (puts p v) t e = with-pairs p v t e
after-apply (drops p) t e = without-pairs p t
after-apply (clears p) t e = cleared-pairs p t

-- A LEAF THAT READS
pub listing-is : (kind level : ℕ) (s : List ℕ) (i : ℕ) (es : List Entry) → i * 1024 + 1024 ≤ length s → node_entries kind level (node_bytes s i) ≡ some es → listing s i ≡ es
unfolding listed
listing-is kind level s i es inside e =
    let w : Laid kind level (node_bytes s i) es = laid kind level (node_bytes s i) es e in
    let short : u16 s (i * 1024) ≤ 1016 = omega (arith, count-is s i inside, w.size) in
    ap (λ b. list_of b) (sym (bytes-is s i inside short)) ∙ all_listed (entry_bytes (node_bytes s i)) es w.reads

one-reads : (m : Message) (i : ℕ) (s : List ℕ) (rs : List Row) → i * 1024 + 1024 ≤ length s → u16 s (i * 1024) + length (bytes_of (message m)) ≤ 1016
    → node_entries 0x0001 1 (node_bytes s i) ≡ some (pair_entries rs) → rising rs ≡ true → node_entries 0x0001 1 (node_bytes (applied m i s) i) ≡ some (pair_entries (apply [] m rs))
one-reads m i s rs inside fits e up =
    let new : pairs_after m (listing s i) ≡ pair_entries (apply [] m rs) = ap (pairs_after m) (listing-is 0x0001 1 s i (pair_entries rs) inside e) ∙ after-apply m rs up in
    ap (node_entries 0x0001 1) (applied-same m i s inside fits)
    ∙ page-reads 1 1 (bytes_of_all (pairs_after m (listing s i))) (pair_entries (apply [] m rs)) (omega (arith, after-fits m i s inside fits))
    (ap (λ l. entries_of (bytes_of_all l)) new ∙ all_back (pair_entries (apply [] m rs)) (pairs-allowed (apply [] m rs)))

leaf-reads : (es : List Entry) (i : ℕ) (lo hi s : List ℕ) (rs : List Row) → has_room es i lo hi s ≡ true → node_entries 0x0001 1 (node_bytes s i) ≡ some (pair_entries rs) → rising rs ≡ true
    → node_entries 0x0001 1 (node_bytes (leaf_takes es i lo hi s) i) ≡ some (pair_entries (apply_all [] (arriving (waiting es) lo hi) rs))
unfolding leaf_takes waiting arriving apply_all leaf_takes_one
leaf-reads [] i lo hi s rs r e up = e
leaf-reads (pair k v ∷ es) i lo hi s rs r e up = leaf-reads es i lo hi s rs (one-taken (pair k v) es i lo hi s r).left e up
leaf-reads (child j k ∷ es) i lo hi s rs r e up = leaf-reads es i lo hi s rs (one-taken (child j k) es i lo hi s r).left e up
leaf-reads (message m ∷ es) i lo hi s rs r e up = go (touches m lo hi) refl (λ q ts a b c. leaf-reads es i lo hi q ts a b c)
  where
    n : Message
    n = lowered_by (length (shared lo hi)) m

    left : has_room es i lo hi (cond (touches m lo hi) (applied n i s) s) ≡ true
    left = (one-taken (message m) es i lo hi s r).left

    go : (x : Bool) → touches m lo hi ≡ x
        → ((q : List ℕ) (ts : List Row) → has_room es i lo hi q ≡ true → node_entries 0x0001 1 (node_bytes q i) ≡ some (pair_entries ts) → rising ts ≡ true
        → node_entries 0x0001 1 (node_bytes (leaf_takes es i lo hi q) i) ≡ some (pair_entries (apply_all [] (arriving (waiting es) lo hi) ts)))
        → node_entries 0x0001 1 (node_bytes (leaf_takes es i lo hi (cond (touches m lo hi) (applied n i s) s)) i)
        ≡ some (pair_entries (apply_all [] (cond (touches m lo hi) (n ∷ arriving (waiting es) lo hi) (arriving (waiting es) lo hi)) rs))
    go true t ih =
        let fits = one-fits m es i lo hi s r t in
        let inside = room-inside (message m ∷ es) i lo hi s r in
        let l : has_room es i lo hi (applied n i s) ≡ true = subst (λ x. has_room es i lo hi (cond x (applied n i s) s) ≡ true) t left in
        ap (λ x. node_entries 0x0001 1 (node_bytes (leaf_takes es i lo hi (cond x (applied n i s) s)) i)) t
        ∙ ih (applied n i s) (apply [] n rs) l (one-reads n i s rs inside (omega arith) e up) (rising-apply [] n rs up)
        ∙ sym (ap (λ x. some (pair_entries (apply_all [] (cond x (n ∷ arriving (waiting es) lo hi) (arriving (waiting es) lo hi)) rs))) t)
    go false t ih =
        let l : has_room es i lo hi s ≡ true = subst (λ x. has_room es i lo hi (cond x (applied n i s) s) ≡ true) t left in
        ap (λ x. node_entries 0x0001 1 (node_bytes (leaf_takes es i lo hi (cond x (applied n i s) s)) i)) t
        ∙ ih s rs l e up
        ∙ sym (ap (λ x. some (pair_entries (apply_all [] (cond x (n ∷ arriving (waiting es) lo hi) (arriving (waiting es) lo hi)) rs))) t)

-- THE TREE OF THE LEAF
-- a leaf's pairs rise
unfoldable pub sorted : Tree → Bool
sorted (unread i) = true
sorted (leaf i rs) = rising rs
sorted (interior i f ms) = true

pairs-then : (e : Entry) (es : List Entry) (o : Option (List Row)) (rs : List Row) → pair_then e o ≡ some rs → ((ts : List Row) → o ≡ some ts → es ≡ pair_entries ts) → e ∷ es ≡ pair_entries rs
unfolding pair_then pair_entries
pairs-then (pair k v) es none rs p f = absurd (Option·none-ne-some rs p)
pairs-then (pair k v) es (some ts) rs p f =
    ap (λ l. pair k v ∷ l) (f ts refl) ∙ ap pair_entries (Option·some-injective (record { key = k; value = v } ∷ ts) rs p)
pairs-then (child i k) es o rs p f = absurd (Option·none-ne-some rs p)
pairs-then (message m) es o rs p f = absurd (Option·none-ne-some rs p)

pub pairs-entries : (es : List Entry) (rs : List Row) → pairs_of es ≡ some rs → es ≡ pair_entries rs
unfolding pairs_of
pairs-entries [] rs p = unfold pair_entries in ap pair_entries (Option·some-injective [] rs p)
pairs-entries (e ∷ es) rs p = pairs-then e es (pairs_of es) rs p (λ ts q. pairs-entries es ts q)

module _ (es : List Entry) (i : ℕ) (lo hi s s' : List ℕ) (room : has_room es i lo hi s ≡ true) (own : node_bytes s' i ≡ node_bytes (leaf_takes es i lo hi s) i) where
  not-tall : tall (unread i) 1 ≡ true → ⊥
  unfolding tall
  not-tall e = false≢true e

  by-pairs : (fs : List Entry) → node_entries 0x0001 1 (node_bytes s i) ≡ some fs → (o : Option (List Row)) → pairs_of fs ≡ o → tall (leaf_of i o) 1 ≡ true → sorted (leaf_of i o) ≡ true
      → tree_at 1 s' i ≡ taken_all (arriving (waiting es) lo hi) (leaf_of i o)
  unfolding tree_at leaf_of or_none sorted
  by-pairs fs e none q h up = absurd (not-tall h)
  by-pairs fs e (some rs) q h up =
      let r : node_entries 0x0001 1 (node_bytes s' i) ≡ some (pair_entries (apply_all [] (arriving (waiting es) lo hi) rs)) =
      ap (node_entries 0x0001 1) own ∙ leaf-reads es i lo hi s rs room (e ∙ ap some (pairs-entries fs rs q)) up in
      rw (r, pairs-back (apply_all [] (arriving (waiting es) lo hi) rs)) (sym (leaf-taken (arriving (waiting es) lo hi) i rs))

  by_entries : (o : Option (List Entry)) → node_entries 0x0001 1 (node_bytes s i) ≡ o → tall (leaf_of i (or_none pairs_of o)) 1 ≡ true → sorted (leaf_of i (or_none pairs_of o)) ≡ true
      → tree_at 1 s' i ≡ taken_all (arriving (waiting es) lo hi) (leaf_of i (or_none pairs_of o))
  unfolding or_none
  by_entries none e h up = absurd (not-tall (unfold leaf_of in h))
  by_entries (some fs) e h up = by-pairs fs e (pairs_of fs) refl h up

  pub leaf-takes : tall (tree_at 1 s i) 1 ≡ true → sorted (tree_at 1 s i) ≡ true → tree_at 1 s' i ≡ taken_all (arriving (waiting es) lo hi) (tree_at 1 s i)
  leaf-takes h up =
      let is : tree_at 1 s i ≡ leaf_of i (or_none pairs_of (node_entries 0x0001 1 (node_bytes s i))) = unfold tree_at in refl in
      by_entries (node_entries 0x0001 1 (node_bytes s i)) refl (subst (λ t. tall t 1 ≡ true) is h) (subst (λ t. sorted t ≡ true) is up)
      ∙ ap (taken_all (arriving (waiting es) lo hi)) (sym is)

-- A LEAF WITH THE SAME BYTES ELSEWHERE
listing-same : (s s₀ : List ℕ) (i : ℕ) → i * 1024 + 1024 ≤ length s → i * 1024 + 1024 ≤ length s₀ → u16 s (i * 1024) ≤ 1016 → u16 s₀ (i * 1024) ≤ 1016
    → node_bytes s i ≡ node_bytes s₀ i → listing s i ≡ listing s₀ i
unfolding listed
listing-same s s₀ i a b f g e = ap (λ l. list_of l) (sym (bytes-is s i a f) ∙ ap entry_bytes e ∙ bytes-is s₀ i b g)

one_same : (e : Entry) (es : List Entry) (i : ℕ) (lo hi s s₀ : List ℕ) → has_room (e ∷ es) i lo hi s ≡ true → has_room (e ∷ es) i lo hi s₀ ≡ true → node_bytes s i ≡ node_bytes s₀ i
    → node_bytes (leaf_takes_one e i lo hi s) i ≡ node_bytes (leaf_takes_one e i lo hi s₀) i
unfolding leaf_takes_one
one_same (pair k v) es i lo hi s s₀ r r₀ e = e
one_same (child j k) es i lo hi s s₀ r r₀ e = e
one_same (message m) es i lo hi s s₀ r r₀ e = go (touches m lo hi) refl
  where
    n : Message
    n = lowered_by (length (shared lo hi)) m

    go : (x : Bool) → touches m lo hi ≡ x → node_bytes (cond (touches m lo hi) (applied n i s) s) i ≡ node_bytes (cond (touches m lo hi) (applied n i s₀) s₀) i
    go true t =
        let f = one-fits m es i lo hi s r t in
        let g = one-fits m es i lo hi s₀ r₀ t in
        let a = room-inside (message m ∷ es) i lo hi s r in
        let b = room-inside (message m ∷ es) i lo hi s₀ r₀ in
        rw t (applied-same n i s a (omega arith)
        ∙ ap (λ l. page 1 1 (bytes_of_all (pairs_after n l))) (listing-same s s₀ i a b (omega arith) (omega arith) e)
        ∙ sym (applied-same n i s₀ b (omega arith)))
    go false t = rw t e

pub leaf-same : (es : List Entry) (i : ℕ) (lo hi s s₀ : List ℕ) → has_room es i lo hi s ≡ true → has_room es i lo hi s₀ ≡ true → node_bytes s i ≡ node_bytes s₀ i
    → node_bytes (leaf_takes es i lo hi s) i ≡ node_bytes (leaf_takes es i lo hi s₀) i
unfolding leaf_takes
leaf-same [] i lo hi s s₀ r r₀ e = e
leaf-same (x ∷ es) i lo hi s s₀ r r₀ e =
    leaf-same es i lo hi (leaf_takes_one x i lo hi s) (leaf_takes_one x i lo hi s₀) (one-taken x es i lo hi s r).left (one-taken x es i lo hi s₀ r₀).left
    (one_same x es i lo hi s s₀ r r₀ e)
