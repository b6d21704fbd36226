-- What two lists share tells every test on them.
use Rattle.std.specs.Prelude.{ℕ, zero, suc, ◌-◌, ◌<◌, ◌≤◌, ◌≡◌, refl, List, [], ◌∷◌, Bool, true, false, ◌&&◌, length, drop, get_or, min, leb, ltb, eqb}
use Rattle.image.specs.Prelude.{sym, ap, ◌∙◌, arith, leb-true, leb-false, drop_of_length-le, drop-cons, eqb-true, eqb-false, le-ltb, eq-eqb, ne_eqb, cases}
use Rattle.image.specs.Bytes.{same, before, begins, shared}
use Rattle.image.specs.Path.{owns}

-- the step of the loop
pub shared_step : (a b : List ℕ) (i : ℕ) → i < length a → i < length b → get_or a i 0 ≡ get_or b i 0
    → length (shared (drop i a) (drop i b)) ≡ suc (length (shared (drop (suc i) a) (drop (suc i) b)))
unfolding shared
shared_step a b i h k e = rw (drop-cons a i 0 h, drop-cons b i 0 k, eq-eqb (get_or a i 0) (get_or b i 0) e)

pub shared-stop : (a b : List ℕ) (i : ℕ) → i < length a → i < length b → (get_or a i 0 ≡ get_or b i 0 → ⊥) → length (shared (drop i a) (drop i b)) ≡ 0
unfolding shared
shared-stop a b i h k n = rw (drop-cons a i 0 h, drop-cons b i 0 k, ne_eqb (get_or a i 0) (get_or b i 0) n)

nil-right : (s : List ℕ) → shared s [] ≡ []
unfolding shared
nil-right [] = refl
nil-right (a ∷ s) = refl

pub shared-first : (a b : List ℕ) (i : ℕ) → length a ≤ i → length (shared (drop i a) (drop i b)) ≡ 0
unfolding shared
shared-first a b i h = rw (drop_of_length-le a h)

pub shared_second : (a b : List ℕ) (i : ℕ) → length b ≤ i → length (shared (drop i a) (drop i b)) ≡ 0
shared_second a b i h = rw (drop_of_length-le b h, nil-right (drop i a))

-- past the shorter one nothing is shared
pub shared-least : (a b : List ℕ) (i : ℕ) → min (length a) (length b) ≤ i → length (shared (drop i a) (drop i b)) ≡ 0
shared-least a b i h =
    cases (leb (length a) i) (λ e. shared-first a b i (leb-true (length a) i e))
    (λ e. let l : i < length a = leb-false (length a) i e in shared_second a b i (omega arith))

-- the tests by the length of what is shared
suc-eqb : (a b : ℕ) → eqb (suc a) (suc b) ≡ eqb a b
suc-eqb a b =
    cases (eqb a b) (λ e. eq-eqb (suc a) (suc b) (ap suc (eqb-true a b e)) ∙ sym e)
    (λ e. ne_eqb (suc a) (suc b) (λ h. eqb-false a b e (omega arith)) ∙ sym e)

pub starts_is : (a b : List ℕ) → eqb (length (shared a b)) (length a) ≡ begins a b
unfolding begins shared
starts_is [] b = refl
starts_is (x ∷ a) [] = ne_eqb 0 (suc (length a)) (λ h. omega arith)
starts_is (x ∷ a) (y ∷ b) = go (eqb x y) refl (starts_is a b)
  where
    go : (t : Bool) → eqb x y ≡ t → eqb (length (shared a b)) (length a) ≡ begins a b → eqb (length (shared (x ∷ a) (y ∷ b))) (length (x ∷ a)) ≡ begins (x ∷ a) (y ∷ b)
    go true e ih = rw e (suc-eqb (length (shared a b)) (length a) ∙ ih)
    go false e ih = rw e (ne_eqb 0 (suc (length a)) (λ h. omega arith))

pub equal_is : (a b : List ℕ) → length a ≡ length b → begins a b ≡ same a b
unfolding begins same
equal_is [] [] h = refl
equal_is [] (y ∷ b) h = absurd (omega arith)
equal_is (x ∷ a) [] h = refl
equal_is (x ∷ a) (y ∷ b) h = ap (λ t. eqb x y && t) (equal_is a b (omega arith))

and-fails : (a b : Bool) → false ≡ b → false ≡ a && b
and-fails true b e = e
and-fails false b e = refl

pub not_equal : (a b : List ℕ) → (length a ≡ length b → ⊥) → false ≡ same a b
unfolding same
not_equal [] [] h = absurd (h refl)
not_equal [] (y ∷ b) h = refl
not_equal (x ∷ a) [] h = refl
not_equal (x ∷ a) (y ∷ b) h = and-fails (eqb x y) (same a b) (not_equal a b (λ e. h (ap suc e)))

-- the loop of equal, from the end: what is past both ends is the same, one byte more in front of the same is the same, and a byte that
-- differs decides
pub same-past : (a b : List ℕ) → length a ≡ length b → same (drop (length a) a) (drop (length a) b) ≡ true
unfolding same
same-past a b h =
    let f : length a ≤ length a = omega arith in
    let g : length b ≤ length a = omega arith in
    rw (drop_of_length-le a f, drop_of_length-le b g)

pub same_whole : (a b : List ℕ) (i : ℕ) → i ≤ 0 → same (drop i a) (drop i b) ≡ true → true ≡ same a b
same_whole a b zero h s = sym s
same_whole a b (suc i) h s = absurd (omega arith)

pub same-longer : (a b : List ℕ) (i : ℕ) → 0 < i → i ≤ length a → i ≤ length b → get_or a (i - 1) 0 ≡ get_or b (i - 1) 0
    → same (drop i a) (drop i b) ≡ true → same (drop (i - 1) a) (drop (i - 1) b) ≡ true
unfolding same
same-longer a b zero p h k e s = absurd (omega arith)
same-longer a b (suc i) p h k e s =
    let q : suc i - 1 ≡ i = omega arith in
    let f : get_or a i 0 ≡ get_or b i 0 = rw q at e in
    rw (q, drop-cons a i 0 (omega arith), drop-cons b i 0 (omega arith), eq-eqb (get_or a i 0) (get_or b i 0) f) s

pub same_differs : (a b : List ℕ) (i : ℕ) → i < length a → i < length b → (get_or a i 0 ≡ get_or b i 0 → ⊥) → false ≡ same a b
unfolding same
same_differs [] b i h k e = absurd (omega arith)
same_differs (x ∷ a) [] i h k e = refl
same_differs (x ∷ a) (y ∷ b) zero h k e = rw (ne_eqb x y e)
same_differs (x ∷ a) (y ∷ b) (suc i) h k e = and-fails (eqb x y) (same a b) (same_differs a b i (omega arith) (omega arith) e)

before_same : (x y : ℕ) (a b : List ℕ) → eqb x y ≡ true → before (x ∷ a) (y ∷ b) ≡ before a b
unfolding before
before_same x y a b e = rw (e, le-ltb x y (let h : x ≡ y = eqb-true x y e in omega arith))

before-other : (x y : ℕ) (a b : List ℕ) → eqb x y ≡ false → before (x ∷ a) (y ∷ b) ≡ ltb x y
unfolding before
before-other x y a b e = cases (ltb x y) (λ f. rw f) (λ f. rw (f, e))

-- b is a beginning of a, or a proper one of b; or they part at a byte
pub precedes-no : (a b : List ℕ) → length b ≤ length (shared a b) → false ≡ before a b
unfolding before shared
precedes-no [] [] h = refl
precedes-no [] (y ∷ b) h = absurd (omega arith)
precedes-no (x ∷ a) [] h = refl
precedes-no (x ∷ a) (y ∷ b) h =
    cases (eqb x y) (λ e. precedes-no a b (let g : suc (length b) ≤ suc (length (shared a b)) = rw e at h in omega arith) ∙ sym (before_same x y a b e))
    (λ e. let g : suc (length b) ≤ 0 = rw e at h in absurd (omega (arith, precedes-no a b)))

pub precedes-yes : (a b : List ℕ) → length (shared a b) < length b → length a ≤ length (shared a b) → true ≡ before a b
unfolding before shared
precedes-yes [] [] l h = absurd (omega arith)
precedes-yes [] (y ∷ b) l h = refl
precedes-yes (x ∷ a) [] l h = absurd (omega arith)
precedes-yes (x ∷ a) (y ∷ b) l h = go (eqb x y) refl (precedes-yes a b)
  where
    go : (t : Bool) → eqb x y ≡ t → (length (shared a b) < length b → length a ≤ length (shared a b) → true ≡ before a b) → true ≡ before (x ∷ a) (y ∷ b)
    go true e ih =
        let g : suc (length a) ≤ suc (length (shared a b)) = rw e at h in
        let k : suc (length (shared a b)) < suc (length b) = rw e at l in
        ih (omega arith) (omega arith) ∙ sym (before_same x y a b e)
    go false e ih = let g : suc (length a) ≤ 0 = rw e at h in absurd (omega arith)

pub precedes-at : (a b : List ℕ) → length (shared a b) < length b → length (shared a b) < length a
    → ltb (get_or a (length (shared a b)) 0) (get_or b (length (shared a b)) 0) ≡ before a b
unfolding shared
precedes-at [] b l h = absurd (omega arith)
precedes-at (x ∷ a) [] l h = absurd (omega arith)
precedes-at (x ∷ a) (y ∷ b) l h = go (eqb x y) refl (precedes-at a b)
  where
    go : (t : Bool) → eqb x y ≡ t
        → (length (shared a b) < length b → length (shared a b) < length a → ltb (get_or a (length (shared a b)) 0) (get_or b (length (shared a b)) 0) ≡ before a b)
        → ltb (get_or (x ∷ a) (length (shared (x ∷ a) (y ∷ b))) 0) (get_or (y ∷ b) (length (shared (x ∷ a) (y ∷ b))) 0) ≡ before (x ∷ a) (y ∷ b)
    go true e ih =
        let g : suc (length (shared a b)) < suc (length a) = rw e at h in
        let k : suc (length (shared a b)) < suc (length b) = rw e at l in
        rw e (ih (omega arith) (omega arith) ∙ sym (before_same x y a b e))
    go false e ih = rw e (sym (before-other x y a b e))

-- the same, by a number k that is known to be that length
module _ (a b : List ℕ) (k : ℕ) (e : k ≡ length (shared a b)) where
  pub starts_by : eqb k (length a) ≡ begins a b
  starts_by = rw e (starts_is a b)

  pub equal_by : length a ≡ length b → eqb k (length a) ≡ same a b
  equal_by h = rw e (starts_is a b ∙ equal_is a b h)

  pub no-by : length b ≤ k → false ≡ before a b
  no-by h = precedes-no a b (omega arith)

  pub yes-by : k < length b → length a ≤ k → true ≡ before a b
  yes-by l h = precedes-yes a b (omega arith) (omega arith)

  pub at-by : k < length b → k < length a → ltb (get_or a k 0) (get_or b k 0) ≡ before a b
  at-by l h = rw e (precedes-at a b (omega arith) (omega arith))

pub owned-low : (lo hi p : List ℕ) (x : Bool) → x ≡ before p lo → x ≡ true → false ≡ owns lo hi p
unfolding owns
owned-low lo hi p x e h = rw (sym e ∙ h)

pub owned-high : (lo hi p : List ℕ) (x y : Bool) → x ≡ before p lo → x ≡ false → y ≡ before p hi → y ≡ owns lo hi p
unfolding owns
owned-high lo hi p x y e h g = rw (sym e ∙ h) g
