-- Reachable nodes after a heal beside those before: some are gone, the others keep number, level, low pivot and messages, and their high
-- pivot too, but for some that hold no message.
use Rattle.std.specs.Prelude.{ℕ, ◌-◌, ◌≡◌, refl, ◌⊎◌, List, [], ◌∷◌, ◌++◌, Bool, true, false, ◌||◌, not, eqb}
use Rattle.image.specs.Prelude.{sym, ap, ap₂, subst, ◌∙◌, inl, inr, false≢true, some, Option·some-injective, eqb-true, eqb-false, eq-eqb, ne_eqb}
use Rattle.image.specs.Bytes.{shared}
use Rattle.image.specs.Entry.{Message, puts, drops, clears}
use Rattle.image.specs.Image.{Tree, unread, leaf, interior, Forest, end, tree}
use Rattle.image.specs.Meaning.{high_of}
use Rattle.image.specs.Sound.{sound_tree, sound_forest, numbers, numbers_in, is_in, once}
use Rattle.image.specs.Upkeep.{Reachable, reachable, reachable_in, reachable_at, every, same_message, is_sublist, gains_no_message, none_gains}
use Rattle.octets.specs.Order.{and_left, and_right, not_so, not-true, same_refl}
use Rattle.laws.specs.Rising.{both}
use Rattle.laws.specs.LookupTable.{parts, inner}

-- x before, y after; `among` has the numbers of the nodes whose high pivot may change
pub record Stays (among : ℕ → Bool) (x y : Reachable) : Type 0 where
  pub number : y.number ≡ x.number
  pub level : y.level ≡ x.level
  pub low : y.low ≡ x.low
  pub messages : y.messages ≡ x.messages
  pub high : (y.high ≡ x.high) ⊎ ((y.messages ≡ []) × (among y.number ≡ true))

pub data Kept (among : ℕ → Bool) : List Reachable → List Reachable → Type 0 where
  empty : Kept among [] []
  keep : {x y : Reachable} {xs ys : List Reachable} → Stays among x y → Kept among xs ys → Kept among (x ∷ xs) (y ∷ ys)
  gone : {x : Reachable} {xs ys : List Reachable} → Kept among xs ys → Kept among (x ∷ xs) ys

module _ (among : ℕ → Bool) where
  pub stays-refl : (x : Reachable) → Stays among x x
  stays-refl x = record { number = refl; level = refl; low = refl; messages = refl; high = inl refl }

  stays-high : (x y z : Reachable) → Stays among x y → Stays among y z
      → (z.high ≡ y.high) ⊎ ((z.messages ≡ []) × (among z.number ≡ true)) → (y.high ≡ x.high) ⊎ ((y.messages ≡ []) × (among y.number ≡ true))
      → (z.high ≡ x.high) ⊎ ((z.messages ≡ []) × (among z.number ≡ true))
  stays-high x y z s t (inl p) (inl q) = inl (p ∙ q)
  stays-high x y z s t (inl p) (inr q) = inr (t.messages ∙ q.0, ap among t.number ∙ q.1)
  stays-high x y z s t (inr p) q = inr p

  pub stays-trans : (x y z : Reachable) → Stays among x y → Stays among y z → Stays among x z
  stays-trans x y z s t =
      record {
        number = t.number ∙ s.number;
        level = t.level ∙ s.level;
        low = t.low ∙ s.low;
        messages = t.messages ∙ s.messages;
        high = stays-high x y z s t t.high s.high;
      }

  pub kept_refl : (xs : List Reachable) → Kept among xs xs
  kept_refl [] = empty
  kept_refl (x ∷ xs) = keep (stays-refl x) (kept_refl xs)

  pub kept_append : {xs ys us vs : List Reachable} → Kept among xs ys → Kept among us vs → Kept among (xs ++ us) (ys ++ vs)
  kept_append empty t = t
  kept_append (keep h s) t = keep h (kept_append s t)
  kept_append (gone s) t = gone (kept_append s t)

  pub kept_trans : {xs ys zs : List Reachable} → Kept among xs ys → Kept among ys zs → Kept among xs zs
  kept_trans empty t = t
  kept_trans (keep {x} {y} h s) (keep {y = z} k t) = keep (stays-trans x y z h k) (kept_trans s t)
  kept_trans (keep h s) (gone t) = gone (kept_trans s t)
  kept_trans (gone s) t = gone (kept_trans s t)

-- NO NODE GAINS A MESSAGE
unfoldable pub numbers_of : List Reachable → List ℕ
numbers_of [] = []
numbers_of (x ∷ xs) = x.number ∷ numbers_of xs

pub numbers_of-append : (xs ys : List Reachable) → numbers_of (xs ++ ys) ≡ numbers_of xs ++ numbers_of ys
unfolding numbers_of
numbers_of-append [] ys = refl
numbers_of-append (x ∷ xs) ys = ap (λ l. x.number ∷ l) (numbers_of-append xs ys)

-- each node of a sound tree is a place
mutual
  unfolding reachable reachable_in numbers numbers_in numbers_of sound_tree

  pub numbers-places : (t : Tree) (level : ℕ) (lo hi : List ℕ) → sound_tree t lo hi ≡ true → numbers_of (reachable t level lo hi) ≡ numbers t
  numbers-places (unread i) level lo hi e = absurd (false≢true e)
  numbers-places (leaf i rs) level lo hi e = refl
  numbers-places (interior i f ms) level lo hi e =
      ap (λ l. i ∷ l) (numbers-places-in f (level - 1) (shared lo hi) lo hi (inner i f ms lo hi e).branches)

  pub numbers-places-in : (f : Forest) (level : ℕ) (lifted lo hi : List ℕ) → sound_forest f lifted lo hi ≡ true
      → numbers_of (reachable_in f level lifted hi) ≡ numbers_in f
  numbers-places-in end level lifted lo hi e = refl
  numbers-places-in (tree s t f) level lifted lo hi e =
      numbers_of-append (reachable t level (lifted ++ s) (high_of lifted hi f)) (reachable_in f level lifted hi)
      ∙ ap₂ (λ a b. a ++ b) (numbers-places t level (lifted ++ s) (high_of lifted hi f) (parts s t f lifted lo hi e).first)
      (numbers-places-in f level lifted lo hi (parts s t f lifted lo hi e).later)

-- with distinct numbers each place is found by its number
data Found (was : List Reachable) : List Reachable → Type 0 where
  empty : Found was []
  also : {x : Reachable} {xs : List Reachable} → reachable_at x.number was ≡ some x → Found was xs → Found was (x ∷ xs)

found-more : (x : Reachable) {was xs : List Reachable} → is_in x.number (numbers_of xs) ≡ false → Found was xs → Found (x ∷ was) xs
unfolding is_in numbers_of reachable_at
found-more x n empty = empty
found-more x {was} n (also {x = z} {xs} p s) = go (eqb x.number z.number) refl (λ h. found-more x h s)
  where
    go : (b : Bool) → eqb x.number z.number ≡ b → (is_in x.number (numbers_of xs) ≡ false → Found (x ∷ was) xs) → Found (x ∷ was) (z ∷ xs)
    go true e ih = not_so {b = eqb x.number z.number || is_in x.number (numbers_of xs)} (rw e) n
    go false e ih =
        also {x = z} (rw (ne_eqb z.number x.number (λ q. eqb-false x.number z.number e (sym q))) p)
        (ih (subst (λ y. y || is_in x.number (numbers_of xs) ≡ false) e n))

found : (xs : List Reachable) → once (numbers_of xs) ≡ true → Found xs xs
unfolding once numbers_of reachable_at
found [] e = empty
found (x ∷ xs) e =
    also {x = x} (rw (eq-eqb x.number x.number refl))
    (found-more x (not-true (is_in x.number (numbers_of xs)) (and_left _ _ e)) (found xs (and_right (not (is_in x.number (numbers_of xs))) _ e)))

same-message : (l : List ℕ) (m : Message) → same_message l m l m ≡ true
unfolding same_message
same-message l (puts s v) = both (same_refl (l ++ s)) (same_refl v)
same-message l (drops s) = same_refl (l ++ s)
same-message l (clears s) = same_refl (l ++ s)

none-new : (l : List ℕ) (ms : List Message) → is_sublist l ms l ms ≡ true
unfolding is_sublist
none-new l [] = refl
none-new l (m ∷ ms) = rw (same-message l m) (none-new l ms)

nothing-new : (l k : List ℕ) (old : List Message) → is_sublist l [] k old ≡ true
unfolding is_sublist
nothing-new l k old = refl

gains-none : (among : ℕ → Bool) (x y : Reachable) → Stays among x y → gains_no_message y (some x) ≡ true
unfolding gains_no_message
gains-none among x y s = go s.high
  where
    go : (y.high ≡ x.high) ⊎ ((y.messages ≡ []) × (among y.number ≡ true))
        → is_sublist (shared y.low y.high) y.messages (shared x.low x.high) x.messages ≡ true
    go (inl h) = rw (s.low, h, s.messages) (none-new (shared x.low x.high) x.messages)
    go (inr h) = subst (λ (ms : List Message). is_sublist (shared y.low y.high) ms (shared x.low x.high) x.messages ≡ true) (sym h.0) (nothing-new (shared y.low y.high) (shared x.low x.high) x.messages)

-- The places after a change beside those before: some are gone, and none of the others gains a message.
pub data NoGain : List Reachable → List Reachable → Type 0 where
  empty : NoGain [] []
  keep : {x y : Reachable} {xs ys : List Reachable} → y.number ≡ x.number → gains_no_message y (some x) ≡ true → NoGain xs ys → NoGain (x ∷ xs) (y ∷ ys)
  gone : {x : Reachable} {xs ys : List Reachable} → NoGain xs ys → NoGain (x ∷ xs) ys

pub no-gain-append : {xs ys us vs : List Reachable} → NoGain xs ys → NoGain us vs → NoGain (xs ++ us) (ys ++ vs)
no-gain-append empty t = t
no-gain-append (keep n g s) t = NoGain.keep n g (no-gain-append s t)
no-gain-append (gone s) t = NoGain.gone (no-gain-append s t)

-- a node that keeps its pivots, and its messages or none of them, gains nothing
pub gains-none-same : (x : Reachable) → gains_no_message x (some x) ≡ true
gains-none-same x = gains-none (λ j. false) x x (stays-refl (λ j. false) x)

pub gains-none-empty : (x y : Reachable) → y.messages ≡ [] → gains_no_message y (some x) ≡ true
unfolding gains_no_message
gains-none-empty x y e =
    subst (λ (ms : List Message). is_sublist (shared y.low y.high) ms (shared x.low x.high) x.messages ≡ true) (sym e)
    (nothing-new (shared y.low y.high) (shared x.low x.high) x.messages)

kept-no-gains : (among : ℕ → Bool) {xs ys : List Reachable} → Kept among xs ys → NoGain xs ys
kept-no-gains among empty = NoGain.empty
kept-no-gains among (keep {x} {y} s t) = NoGain.keep s.number (gains-none among x y s) (kept-no-gains among t)
kept-no-gains among (gone t) = NoGain.gone (kept-no-gains among t)

none-gains : (was : List Reachable) {xs ys : List Reachable} → Found was xs → NoGain xs ys → none_gains was ys ≡ true
unfolding none_gains
none-gains was p empty = refl
none-gains was (also q p) (keep {x} {y} n g t) =
    both (ap (λ k. gains_no_message y (reachable_at k was)) n ∙ ap (λ o. gains_no_message y o) q ∙ g) (none-gains was p t)
none-gains was (also q p) (gone t) = none-gains was p t

pub no-gain : (was after : List Reachable) → once (numbers_of was) ≡ true → NoGain was after → none_gains was after ≡ true
no-gain was after e k = none-gains was (found was e) k

pub kept-no-gain : (among : ℕ → Bool) (was after : List Reachable) → once (numbers_of was) ≡ true → Kept among was after → none_gains was after ≡ true
kept-no-gain among was after e k = no-gain was after e (kept-no-gains among k)

-- with distinct numbers, all places of one number are of one level
unfoldable pub is_level : ℕ → ℕ → Reachable → Bool
is_level n level y = not (eqb n y.number) || eqb y.level level

found-level : (n : ℕ) (x : Reachable) (was : List Reachable) {xs : List Reachable} → reachable_at n was ≡ some x → Found was xs → every (is_level n x.level) xs ≡ true
unfolding every is_level
found-level n x was e empty = refl
found-level n x was e (also {x = y} {xs} q p) = both (go (eqb n y.number) refl) (found-level n x was e p)
  where
    go : (b : Bool) → eqb n y.number ≡ b → not (eqb n y.number) || eqb y.level x.level ≡ true
    go true f =
        let same : some y ≡ some x = sym q ∙ ap (λ k. reachable_at k was) (sym (eqb-true n y.number f)) ∙ e in
        rw (f, ap (λ (z : Reachable). z.level) (Option·some-injective y x same)) (eq-eqb x.level x.level refl)
    go false f = rw f

pub one-level : (n : ℕ) (x : Reachable) (was : List Reachable) → once (numbers_of was) ≡ true → reachable_at n was ≡ some x → every (is_level n x.level) was ≡ true
one-level n x was o e = found-level n x was e (found was o)
