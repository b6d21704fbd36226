-- Step lemmas of the writers: entries one after the other, a node with the entries of two, a node without one child.
use Rattle.std.specs.Prelude.{ℕ, ◌+◌, ◌*◌, ◌<◌, ◌≤◌, ◌≡◌, refl, List, [], ◌∷◌, ◌++◌, true, false, length}
use Rattle.std.specs.Borrow.{Bor}
use Rattle.image.specs.Prelude.{sym, ap, ap₂, ◌∙◌, arith, ltb-true}
use Rattle.image.specs.Bytes.{u16}
use Rattle.image.specs.Entry as defined
use Rattle.octets.specs.Order.{and_left, and_right}
use Rattle.laws.specs.Encode.{bytes_of, bytes_of_all}
use Rattle.laws.specs.WriteNode.{write_node}
use Rattle.laws.specs.Page.{page}
use Rattle.node.specs.Lent.{entry_is, Small}
use Rattle.node.specs.declared.entries.Message.{Message}
use Rattle.node.specs.declared.entries.Entry.{Entry}
use Rattle.lookup.specs.Look.{listing}
use Rattle.merge.specs.Laws.Joined.{prefixed, prefixed_all, left_more, right_more, is_child, without_child, small_entry, small_entries, both_entries, left_written, node_without, pair_fits}
use Rattle.merge.specs.Laws.Weights.{Joinable, joinable, without-fits}

-- ONE ENTRY, by its kind
module _ (more : List ℕ) (e : Entry) where
  pub as-pair : (k v : Bor (List ℕ)) → e ≡ Entry.Pair k v → bytes_of (defined.pair (more ++ k.now) v.now) ≡ bytes_of (prefixed more (entry_is e))
  unfolding prefixed
  as-pair k v q = rw q refl

  pub as-child : (i : ℕ) (p : Bor (List ℕ)) → e ≡ Entry.Child i p → bytes_of (defined.child i (more ++ p.now)) ≡ bytes_of (prefixed more (entry_is e))
  unfolding prefixed
  as-child i p q = rw q refl

  pub as-message : (m : Message) → e ≡ Entry.Message m → bytes_of (entry_is e) ≡ bytes_of (prefixed more (entry_is e))
  unfolding prefixed
  as-message m q = rw q refl

pub small-child : (e : Entry) (i : ℕ) (p : Bor (List ℕ)) → small_entry (entry_is e) ≡ true → e ≡ Entry.Child i p → i < 65536
unfolding small_entry
small-child e i p h q = ltb-true i 65536 (sym (ap (λ z. small_entry (entry_is z)) q) ∙ h)

pub small-is : (e : defined.Entry) → small_entry e ≡ true → Small e
unfolding small_entry
small-is (defined.pair k v) h = tt
small-is (defined.child i k) h = ltb-true i 65536 h
small-is (defined.message m) h = tt

-- room for what is as much
pub fits-by : (now a b : List ℕ) → a ≡ b → length now + length b ≤ 1016 → length now + length a ≤ 1016
fits-by now a b e h = let z = ap length e in omega arith

-- ENTRIES
module _ (es ts : List defined.Entry) (e : defined.Entry) (q : es ≡ e ∷ ts) where
  pub prefixed-cons : (more : List ℕ) → bytes_of_all (prefixed_all more es) ≡ bytes_of (prefixed more e) ++ bytes_of_all (prefixed_all more ts)
  unfolding prefixed_all bytes_of_all
  prefixed-cons more = ap (λ l. bytes_of_all (prefixed_all more l)) q

  pub small-first : small_entries es ≡ true → small_entry e ≡ true
  unfolding small_entries
  small-first h = and_left _ _ (sym (ap small_entries q) ∙ h)

  pub small-later : small_entries es ≡ true → small_entries ts ≡ true
  unfolding small_entries
  small-later h = and_right (small_entry e) _ (sym (ap small_entries q) ∙ h)

  pub without-same : (g : ℕ) → true ≡ is_child g e → bytes_of_all (without_child g es) ≡ bytes_of_all (without_child g ts)
  unfolding without_child
  without-same g h = rw (q, sym h) refl

  pub without-more : (g : ℕ) → false ≡ is_child g e → bytes_of_all (without_child g es) ≡ bytes_of e ++ bytes_of_all (without_child g ts)
  unfolding without_child bytes_of_all
  without-more g h = rw (q, sym h) refl

pub prefixed-none : (more : List ℕ) (es : List defined.Entry) → es ≡ [] → bytes_of_all (prefixed_all more es) ≡ []
unfolding prefixed_all bytes_of_all
prefixed-none more es q = ap (λ l. bytes_of_all (prefixed_all more l)) q

pub without-none : (g : ℕ) (es : List defined.Entry) → es ≡ [] → bytes_of_all (without_child g es) ≡ []
unfolding without_child bytes_of_all
without-none g es q = ap (λ l. bytes_of_all (without_child g l)) q

pub small-as : (es fs : List defined.Entry) → es ≡ fs → small_entries fs ≡ true → small_entries es ≡ true
small-as es fs q h = ap small_entries q ∙ h

-- A NODE WITHOUT ONE CHILD: the page was bare
pub without-written : (s s' bare p : List ℕ) (n level g : ℕ) (es : List defined.Entry) → bare ≡ [] → p ≡ bare ++ bytes_of_all (without_child g es) → s' ≡ write_node s n (page 2 level p)
    → s' ≡ node_without s n level g es
unfolding node_without
without-written s s' bare p n level g es b a d = d ∙ ap (λ l. write_node s n (page 2 level l)) (a ∙ ap (λ l. l ++ bytes_of_all (without_child g es)) b)

pub others-fit : (bare : List ℕ) (g : ℕ) (es : List defined.Entry) → bare ≡ [] → length (bytes_of_all es) ≤ 1016 → length bare + length (bytes_of_all (without_child g es)) ≤ 1016
others-fit bare g es b f = let a = without-fits g es in let z = ap length b in omega arith

-- THE ENTRIES OF BOTH: es and fs are those of the left one and of the right one, l and r what they have in front
module _ (s : List ℕ) (a b : ℕ) (lo mid hi : List ℕ) (fits : pair_fits s a b lo mid hi ≡ true) where
  pub both-join : Joinable s a b lo mid hi
  both-join = joinable s a b lo mid hi fits

  module _ (es fs : List defined.Entry) (el : es ≡ listing s a) (er : fs ≡ listing s b) (l r : List ℕ) (ml : l ≡ left_more lo mid hi) (mr : r ≡ right_more lo mid hi) (bare : List ℕ) (e : bare ≡ []) where
    abbrev A : List ℕ
    A = bytes_of_all (prefixed_all l es)

    abbrev B : List ℕ
    B = bytes_of_all (prefixed_all r fs)

    A-is : A ≡ bytes_of_all (prefixed_all (left_more lo mid hi) (listing s a))
    A-is = ap₂ (λ x y. bytes_of_all (prefixed_all x y)) ml el

    B-is : B ≡ bytes_of_all (prefixed_all (right_more lo mid hi) (listing s b))
    B-is = ap₂ (λ x y. bytes_of_all (prefixed_all x y)) mr er

    sizes : length A + length B ≤ 1016
    sizes = let j = both-join.fits in let x = ap length A-is in let y = ap length B-is in omega arith

    pub left-fits : length bare + length A ≤ 1016
    left-fits = let z = sizes in let w = ap length e in omega arith

    module _ (p₁ : List ℕ) (e₁ : p₁ ≡ bare ++ A) where
      pub right-fits : length p₁ + length B ≤ 1016
      right-fits = let z = sizes in let w = ap length (e₁ ∙ ap (λ x. x ++ A) e) in omega arith

      pub left-written : (kind level : ℕ) (p₂ s' : List ℕ) → kind ≡ u16 s (a * 1024 + 2) → level ≡ u16 s (a * 1024 + 4) → p₂ ≡ p₁ ++ B → s' ≡ write_node s a (page kind level p₂)
          → s' ≡ left_written s a b lo mid hi
      unfolding left_written both_entries
      left-written kind level p₂ s' ek ev e₂ d =
          d ∙ ap (λ x. write_node s a (page kind level x)) (e₂ ∙ ap (λ x. x ++ B) (e₁ ∙ ap (λ x. x ++ A) e) ∙ ap₂ (λ x y. x ++ y) A-is B-is)
          ∙ ap₂ (λ k v. write_node s a (page k v (both_entries s a b lo mid hi))) ek ev
