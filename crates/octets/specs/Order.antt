-- Laws of the byte order, of beginnings and of the common beginning.
use Rattle.std.specs.Prelude.{ℕ, ◌<◌, ◌≤◌, ◌≡◌, refl, ◌⊎◌, List, [], ◌∷◌, ◌++◌, Bool, true, false, ◌&&◌, ◌||◌, not, length, drop, ltb, eqb}
use Rattle.image.specs.Prelude.{sym, ap, subst, ◌∙◌, inl, inr, true≢false, false≢true, arith, ltb-true, ltb-false, eqb-true, lt-ltb, le-ltb, eq-eqb, ne_eqb}
use Rattle.image.specs.Bytes.{same, before, begins, shared}

-- a conjunction's parts, and the ways out of a wrong test
pub and_left : (a b : Bool) → a && b ≡ true → a ≡ true
and_left true b e = refl
and_left false b e = e

pub and_right : (a b : Bool) → a && b ≡ true → b ≡ true
and_right true b e = e
and_right false b e = absurd (false≢true e)

pub and-false : (a : Bool) → a && false ≡ false
and-false true = refl
and-false false = refl

pub not_so : {A : Type 0} {b : Bool} → b ≡ true → b ≡ false → A
not_so p q = absurd (true≢false (sym p ∙ q))

pub refuted : {b : Bool} → (b ≡ true → ⊥) → b ≡ false
refuted {b = true} f = absurd (f refl)
refuted {b = false} f = refl

pub upheld : {b : Bool} → (b ≡ false → ⊥) → b ≡ true
upheld {b = true} f = refl
upheld {b = false} f = absurd (f refl)

pub or-none-left : (a b : Bool) → a || b ≡ false → a ≡ false
or-none-left true b e = e
or-none-left false b e = refl

pub or-none-right : (a b : Bool) → a || b ≡ false → b ≡ false
or-none-right true b e = not_so {b = true} refl e
or-none-right false b e = e

pub not-true : (b : Bool) → not b ≡ true → b ≡ false
not-true true e = sym e
not-true false e = refl

pub not-false : (b : Bool) → b ≡ false → not b ≡ true
not-false true e = sym e
not-false false e = refl

-- same
pub same_refl : (s : List ℕ) → same s s ≡ true
unfolding same
same_refl [] = refl
same_refl (a ∷ s) = rw (eq-eqb a a refl, same_refl s)

pub same-eq : (s t : List ℕ) → same s t ≡ true → s ≡ t
unfolding same
same-eq [] [] e = refl
same-eq [] (b ∷ t) e = absurd (false≢true e)
same-eq (a ∷ s) [] e = absurd (false≢true e)
same-eq (a ∷ s) (b ∷ t) e =
    let h : a ≡ b = eqb-true a b (and_left _ _ e) in
    let k : s ≡ t = same-eq s t (and_right (eqb a b) _ e) in
    cc

pub same_false : (s t : List ℕ) → (s ≡ t → ⊥) → same s t ≡ false
same_false s t h = refuted (λ e. absurd (h (same-eq s t e)))

pub same_turn : (s t : List ℕ) → same s t ≡ false → same t s ≡ false
same_turn s t e = same_false t s (λ z. not_so (rw z (same_refl s)) e)

-- the step of the order
data Cmp (a b : ℕ) : Type 0 where
  lower : a < b → Cmp a b
  equal : a ≡ b → Cmp a b
  higher : b < a → Cmp a b

cmp : (a b : ℕ) → Cmp a b
cmp a b = go (ltb a b) refl (ltb b a) refl
  where
    go : (x : Bool) → ltb a b ≡ x → (y : Bool) → ltb b a ≡ y → Cmp a b
    go true e y f = lower (ltb-true a b e)
    go false e true f = higher (ltb-true b a f)
    go false e false f =
        let h : b ≤ a = ltb-false a b e in
        let k : a ≤ b = ltb-false b a f in
        equal (omega arith)

pub before-lt : (a b : ℕ) (s t : List ℕ) → a < b → before (a ∷ s) (b ∷ t) ≡ true
unfolding before
before-lt a b s t h = rw (lt-ltb a b h)

pub before-eq : (a b : ℕ) (s t : List ℕ) → a ≡ b → before (a ∷ s) (b ∷ t) ≡ before s t
unfolding before
before-eq a b s t h = rw (h, le-ltb b b (omega arith), eq-eqb b b refl)

pub before-gt : (a b : ℕ) (s t : List ℕ) → b < a → before (a ∷ s) (b ∷ t) ≡ false
unfolding before
before-gt a b s t h = rw (le-ltb a b (omega arith), ne_eqb a b (λ q. omega arith))

-- a head's order, from a test on the whole
head-yes : (a b : ℕ) (s t : List ℕ) → before (a ∷ s) (b ∷ t) ≡ true → (a < b) ⊎ ((a ≡ b) × (before s t ≡ true))
head-yes a b s t e = go (cmp a b)
  where
    go : Cmp a b → (a < b) ⊎ ((a ≡ b) × (before s t ≡ true))
    go (lower h) = inl h
    go (equal h) = inr (h, sym (before-eq a b s t h) ∙ e)
    go (higher h) = not_so e (before-gt a b s t h)

head-no : (a b : ℕ) (s t : List ℕ) → before (a ∷ s) (b ∷ t) ≡ false → (b < a) ⊎ ((a ≡ b) × (before s t ≡ false))
head-no a b s t e = go (cmp a b)
  where
    go : Cmp a b → (b < a) ⊎ ((a ≡ b) × (before s t ≡ false))
    go (lower h) = not_so (before-lt a b s t h) e
    go (equal h) = inr (h, sym (before-eq a b s t h) ∙ e)
    go (higher h) = inl h

pub before-irrefl : (s : List ℕ) → before s s ≡ false
unfolding before
before-irrefl [] = refl
before-irrefl (a ∷ s) = before-eq a a s s refl ∙ before-irrefl s

pub before-not-same : (s t : List ℕ) → before s t ≡ true → same t s ≡ false
before-not-same s t e = same_false t s (λ q. not_so e (rw q (before-irrefl s)))

-- q < m and not c < m: q < c
pub before-le : (q m c : List ℕ) → before q m ≡ true → before c m ≡ false → before q c ≡ true
unfolding before
before-le [] [] c e f = absurd (false≢true e)
before-le [] (b ∷ t) [] e f = absurd (true≢false f)
before-le [] (b ∷ t) (x ∷ u) e f = refl
before-le (a ∷ s) [] c e f = absurd (false≢true e)
before-le (a ∷ s) (b ∷ t) [] e f = absurd (true≢false f)
before-le (a ∷ s) (b ∷ t) (x ∷ u) e f = go (head-yes a b s t e) (head-no x b u t f) (λ h k. before-le s t u h k)
  where
    go : (a < b) ⊎ ((a ≡ b) × (before s t ≡ true)) → (b < x) ⊎ ((x ≡ b) × (before u t ≡ false))
        → (before s t ≡ true → before u t ≡ false → before s u ≡ true) → before (a ∷ s) (x ∷ u) ≡ true
    go (inl h) (inl k) ih = before-lt a x s u (omega arith)
    go (inl h) (inr k) ih = let k0 : x ≡ b = k.0 in before-lt a x s u (omega arith)
    go (inr h) (inl k) ih = let h0 : a ≡ b = h.0 in before-lt a x s u (omega arith)
    go (inr h) (inr k) ih = before-eq a x s u (h.0 ∙ sym k.0) ∙ ih h.1 k.1

pub le-before : (q m c : List ℕ) → before m q ≡ false → before m c ≡ true → before q c ≡ true
le-before q m c e f = upheld (λ g. not_so (before-le m c q f g) e)

pub before-trans : (q m c : List ℕ) → before q m ≡ true → before m c ≡ true → before q c ≡ true
unfolding before
before-trans [] [] c e f = f
before-trans [] (b ∷ t) [] e f = absurd (false≢true f)
before-trans [] (b ∷ t) (x ∷ u) e f = refl
before-trans (a ∷ s) [] c e f = absurd (false≢true e)
before-trans (a ∷ s) (b ∷ t) [] e f = absurd (false≢true f)
before-trans (a ∷ s) (b ∷ t) (x ∷ u) e f = go (head-yes a b s t e) (head-yes b x t u f) (λ h k. before-trans s t u h k)
  where
    go : (a < b) ⊎ ((a ≡ b) × (before s t ≡ true)) → (b < x) ⊎ ((b ≡ x) × (before t u ≡ true))
        → (before s t ≡ true → before t u ≡ true → before s u ≡ true) → before (a ∷ s) (x ∷ u) ≡ true
    go (inl h) (inl k) ih = before-lt a x s u (omega arith)
    go (inl h) (inr k) ih = let k0 : b ≡ x = k.0 in before-lt a x s u (omega arith)
    go (inr h) (inl k) ih = let h0 : a ≡ b = h.0 in before-lt a x s u (omega arith)
    go (inr h) (inr k) ih = before-eq a x s u (h.0 ∙ k.0) ∙ ih h.1 k.1

-- what two pivots share begins whatever lies from the first up to the second
pub between-begins : (lo hi p : List ℕ) → before p lo ≡ false → before p hi ≡ true → begins (shared lo hi) p ≡ true
unfolding before begins shared
between-begins [] hi p e f = refl
between-begins (a ∷ s) [] p e f = refl
between-begins (a ∷ s) (b ∷ t) [] e f = absurd (true≢false e)
between-begins (a ∷ s) (b ∷ t) (x ∷ u) e f = go (eqb a b) refl (head-no x a u s e) (head-yes x b u t f) (λ h k. between-begins s t u h k)
  where
    go : (y : Bool) → eqb a b ≡ y → (a < x) ⊎ ((x ≡ a) × (before u s ≡ false)) → (x < b) ⊎ ((x ≡ b) × (before u t ≡ true))
        → (before u s ≡ false → before u t ≡ true → begins (shared s t) u ≡ true) → begins (shared (a ∷ s) (b ∷ t)) (x ∷ u) ≡ true
    go false q h k ih = rw q refl
    go true q (inl h) (inl k) ih = let z : a ≡ b = eqb-true a b q in absurd (omega arith)
    go true q (inl h) (inr k) ih = let z : a ≡ b = eqb-true a b q in let w : x ≡ b = k.0 in absurd (omega arith)
    go true q (inr h) (inl k) ih = let z : a ≡ b = eqb-true a b q in let w : x ≡ a = h.0 in absurd (omega arith)
    go true q (inr h) (inr k) ih = rw (q, eq-eqb a x (sym h.0)) (ih h.1 k.1)

-- a beginning and the rest after it
pub begins-split : (s p : List ℕ) → begins s p ≡ true → s ++ drop (length s) p ≡ p
unfolding begins
begins-split [] p e = refl
begins-split (a ∷ s) [] e = absurd (false≢true e)
begins-split (a ∷ s) (b ∷ p) e =
    let h : a ≡ b = eqb-true a b (and_left _ _ e) in
    let k : s ++ drop (length s) p ≡ p = begins-split s p (and_right (eqb a b) _ e) in
    cc

-- the tests on two extensions of one list are those on what extends it
pub same-append : (l s t : List ℕ) → same (l ++ s) (l ++ t) ≡ same s t
unfolding same
same-append [] s t = refl
same-append (a ∷ l) s t = rw (eq-eqb a a refl) (same-append l s t)

pub begins-append : (l s t : List ℕ) → begins (l ++ s) (l ++ t) ≡ begins s t
unfolding begins
begins-append [] s t = refl
begins-append (a ∷ l) s t = rw (eq-eqb a a refl) (begins-append l s t)

pub before-append : (l s t : List ℕ) → before (l ++ s) (l ++ t) ≡ before s t
before-append [] s t = refl
before-append (a ∷ l) s t = before-eq a a (l ++ s) (l ++ t) refl ∙ before-append l s t

pub shared-append : (l s t : List ℕ) → shared (l ++ s) (l ++ t) ≡ l ++ shared s t
unfolding shared
shared-append [] s t = refl
shared-append (a ∷ l) s t = rw (eq-eqb a a refl) (ap (λ r. a ∷ r) (shared-append l s t))

-- neither same nor after: before
pub before-total : (p k : List ℕ) → same p k ≡ false → before k p ≡ false → before p k ≡ true
unfolding before same
before-total [] [] e f = absurd (true≢false e)
before-total [] (b ∷ t) e f = refl
before-total (a ∷ s) [] e f = absurd (true≢false f)
before-total (a ∷ s) (b ∷ t) e f = go (head-no b a t s f) (λ x y. before-total s t x y)
  where
    go : (a < b) ⊎ ((b ≡ a) × (before t s ≡ false)) → (same s t ≡ false → before t s ≡ false → before s t ≡ true) → before (a ∷ s) (b ∷ t) ≡ true
    go (inl h) ih = before-lt a b s t h
    go (inr h) ih = before-eq a b s t (sym h.0) ∙ ih (subst (λ x. x && same s t ≡ false) (eq-eqb a b (sym h.0)) e) h.1

pub before-asym : (s t : List ℕ) → before s t ≡ true → before t s ≡ false
before-asym s t e = refuted (λ f. not_so (before-trans s t s e f) (before-irrefl s))

-- a beginning of a beginning
pub begins-trans : (s t u : List ℕ) → begins s t ≡ true → begins t u ≡ true → begins s u ≡ true
unfolding begins
begins-trans [] t u e f = refl
begins-trans (a ∷ s) [] u e f = absurd (false≢true e)
begins-trans (a ∷ s) (b ∷ t) [] e f = absurd (false≢true f)
begins-trans (a ∷ s) (b ∷ t) (c ∷ u) e f =
    let h : a ≡ b = eqb-true a b (and_left _ _ e) in
    let k : b ≡ c = eqb-true b c (and_left _ _ f) in
    rw (eq-eqb a c (h ∙ k)) (begins-trans s t u (and_right (eqb a b) _ e) (and_right (eqb b c) _ f))

-- two beginnings of one list: one begins the other
pub begins-either : (s t u : List ℕ) → begins s u ≡ true → begins t u ≡ true → begins s t || begins t s ≡ true
unfolding begins
begins-either [] t u e f = refl
begins-either (a ∷ s) [] u e f = refl
begins-either (a ∷ s) (b ∷ t) [] e f = absurd (false≢true e)
begins-either (a ∷ s) (b ∷ t) (c ∷ u) e f =
    let h : a ≡ c = eqb-true a c (and_left _ _ e) in
    let k : b ≡ c = eqb-true b c (and_left _ _ f) in
    rw (eq-eqb a b (h ∙ sym k), eq-eqb b a (k ∙ sym h)) (begins-either s t u (and_right (eqb a c) _ e) (and_right (eqb b c) _ f))

-- past its end
pub drop-beyond : (p l : List ℕ) → begins p l ≡ true → drop (length l) p ≡ []
unfolding begins
drop-beyond [] [] e = refl
drop-beyond [] (b ∷ l) e = refl
drop-beyond (a ∷ p) [] e = absurd (false≢true e)
drop-beyond (a ∷ p) (b ∷ l) e = drop-beyond p l (and_right (eqb a b) _ e)

pub and_assoc : (a b c : Bool) → (a && b) && c ≡ a && (b && c)
and_assoc true b c = refl
and_assoc false b c = refl
