-- The order and the beginnings of a path that is given in two parts, a and b, told without joining them.
-- Relies on: the order's laws (octets/specs/Order).
use Rattle.std.specs.Prelude.{ℕ, ◌-◌, ◌≤◌, ◌≡◌, refl, List, [], ◌∷◌, ◌++◌, Bool, true, false, ◌&&◌, ◌||◌, length, take, drop, ltb, eqb}
use Rattle.image.specs.Prelude.{sym, ap, ◌∙◌, true≢false, eqb-true, eq-eqb}
use Rattle.image.specs.Bytes.{before, begins}
use Rattle.octets.specs.Beginnings.{begins-length}
use Rattle.octets.specs.Order.{not_so, begins-split, begins-append, before-append}
use Rattle.lookup.specs.Look.{part-rest}

-- a is no beginning of c: the first part decides
pub precedes-first : (a b c : List ℕ) → begins a c ≡ false → before a c ≡ before (a ++ b) c
unfolding before begins
precedes-first [] b c h = absurd (true≢false h)
precedes-first (x ∷ a) b [] h = refl
precedes-first (x ∷ a) b (y ∷ c) h = go (eqb x y) refl (precedes-first a b c)
  where
    go : (t : Bool) → eqb x y ≡ t → (begins a c ≡ false → before a c ≡ before (a ++ b) c) → before (x ∷ a) (y ∷ c) ≡ before (x ∷ (a ++ b)) (y ∷ c)
    go true e ih = ap (λ z. ltb x y || (eqb x y && z)) (ih (rw e at h))
    go false e ih = rw e

pub follows-first : (a b c : List ℕ) → begins a c ≡ false → before c a ≡ before c (a ++ b)
unfolding before begins
follows-first [] b c h = absurd (true≢false h)
follows-first (x ∷ a) b [] h = refl
follows-first (x ∷ a) b (y ∷ c) h = go (eqb x y) refl (eqb y x) refl (follows-first a b c)
  where
    turn : (x y : ℕ) → eqb y x ≡ true → eqb x y ≡ true
    turn x y e = eq-eqb x y (sym (eqb-true y x e))

    go : (t : Bool) → eqb x y ≡ t → (u : Bool) → eqb y x ≡ u → (begins a c ≡ false → before c a ≡ before c (a ++ b)) → before (y ∷ c) (x ∷ a) ≡ before (y ∷ c) (x ∷ (a ++ b))
    go true e u f ih = ap (λ z. ltb y x || (eqb y x && z)) (ih (rw e at h))
    go false e true f ih = not_so (turn x y f) e
    go false e false f ih = rw f

pub begun_first : (a b c : List ℕ) → begins a c ≡ false → begins c a ≡ begins c (a ++ b)
unfolding begins
begun_first [] b c h = absurd (true≢false h)
begun_first (x ∷ a) b [] h = refl
begun_first (x ∷ a) b (y ∷ c) h = go (eqb x y) refl (eqb y x) refl (begun_first a b c)
  where
    turn : (x y : ℕ) → eqb y x ≡ true → eqb x y ≡ true
    turn x y e = eq-eqb x y (sym (eqb-true y x e))

    go : (t : Bool) → eqb x y ≡ t → (u : Bool) → eqb y x ≡ u → (begins a c ≡ false → begins c a ≡ begins c (a ++ b)) → begins (y ∷ c) (x ∷ a) ≡ begins (y ∷ c) (x ∷ (a ++ b))
    go true e u f ih = ap (λ z. eqb y x && z) (ih (rw e at h))
    go false e true f ih = not_so (turn x y f) e
    go false e false f ih = rw f

-- a is a beginning of c: the second part decides, against what is left of c
module _ (a b c : List ℕ) (h : begins a c ≡ true) where
  rest : a ++ take (length c - length a) (drop (length a) c) ≡ c
  rest = ap (λ z. a ++ z) (part-rest (length a) c) ∙ begins-split a c h

  pub precedes-second : before b (take (length c - length a) (drop (length a) c)) ≡ before (a ++ b) c
  precedes-second = sym (before-append a b (take (length c - length a) (drop (length a) c))) ∙ ap (λ z. before (a ++ b) z) rest

  pub follows-second : before (take (length c - length a) (drop (length a) c)) b ≡ before c (a ++ b)
  follows-second = sym (before-append a (take (length c - length a) (drop (length a) c)) b) ∙ ap (λ z. before z (a ++ b)) rest

  pub begun-second : begins (take (length c - length a) (drop (length a) c)) b ≡ begins c (a ++ b)
  begun-second = sym (begins-append a (take (length c - length a) (drop (length a) c)) b) ∙ ap (λ z. begins z (a ++ b)) rest

-- the same for the code: t is the test whether a begins c, r what the comparison answered
module _ (a b c : List ℕ) (t r : Bool) (e : t ≡ begins a c) where
  pub joined-yes : t ≡ true → r ≡ before b (take (length c - length a) (drop (length a) c)) → r ≡ before (a ++ b) c
  joined-yes h f = f ∙ precedes-second a b c (sym e ∙ h)

  pub joined-no : t ≡ false → r ≡ before a c → r ≡ before (a ++ b) c
  joined-no h f = f ∙ precedes-first a b c (sym e ∙ h)

  pub after-yes : t ≡ true → r ≡ before (take (length c - length a) (drop (length a) c)) b → r ≡ before c (a ++ b)
  after-yes h f = f ∙ follows-second a b c (sym e ∙ h)

  pub after-no : t ≡ false → r ≡ before c a → r ≡ before c (a ++ b)
  after-no h f = f ∙ follows-first a b c (sym e ∙ h)

  pub begun-yes : t ≡ true → r ≡ begins (take (length c - length a) (drop (length a) c)) b → r ≡ begins c (a ++ b)
  begun-yes h f = f ∙ begun-second a b c (sym e ∙ h)

  pub begun-no : t ≡ false → r ≡ begins c a → r ≡ begins c (a ++ b)
  begun-no h f = f ∙ begun_first a b c (sym e ∙ h)

  pub short-yes : t ≡ true → length a ≤ length c
  short-yes h = begins-length a c (sym e ∙ h)
