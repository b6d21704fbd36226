-- Where a byte first stands, and the fields of a line by the places of its spaces.
use Rattle.std.specs.Prelude.{ℕ, suc, ◌+◌, ◌<◌, ◌≤◌, ◌≡◌, refl, List, [], ◌∷◌, Bool, true, false, cond, length, take, drop, get_or, eqb}
use Rattle.image.specs.Prelude.{sym, ap, ◌∙◌, arith, drop_of_length-le, drop-cons, eq-eqb, ne_eqb, eqb-true, eqb-false, add-one}
use Rattle.image.specs.Sound.{is_in}
use Rattle.image.specs.Program.{space, with_byte, fields_of}

-- how many bytes stand before the first b: the length where there is none
unfoldable pub up_to : ℕ → List ℕ → ℕ
up_to b [] = 0
up_to b (c ∷ s) = cond (eqb c b) 0 (suc (up_to b s))

up_same : (b c : ℕ) (s : List ℕ) → c ≡ b → up_to b (c ∷ s) ≡ 0
unfolding up_to
up_same b c s e = rw (eq-eqb c b e)

up-other : (b c : ℕ) (s : List ℕ) → (c ≡ b → ⊥) → up_to b (c ∷ s) ≡ suc (up_to b s)
unfolding up_to
up-other b c s e = rw (ne_eqb c b e)

-- the loop that looks for a byte has passed i others
module _ (s : List ℕ) (b i : ℕ) (seen : up_to b s ≡ i + up_to b (drop i s)) where
  pub found_here : i < length s → get_or s i 0 ≡ b → i ≡ up_to b s
  found_here h e =
      let z : up_to b (drop i s) ≡ 0 = ap (up_to b) (drop-cons s i 0 h) ∙ up_same b (get_or s i 0) (drop (suc i) s) e in
      omega arith

  pub goes-on : i < length s → (get_or s i 0 ≡ b → ⊥) → up_to b s ≡ i + 1 + up_to b (drop (i + 1) s)
  goes-on h e =
      let z : up_to b (drop i s) ≡ suc (up_to b (drop (suc i) s)) = ap (up_to b) (drop-cons s i 0 h) ∙ up-other b (get_or s i 0) (drop (suc i) s) e in
      rw add-one (omega arith)

  pub found_none : length s ≤ i → i ≡ up_to b s
  found_none h =
      let z : up_to b (drop i s) ≡ 0 = ap (up_to b) (drop_of_length-le s h) ∙ (unfold up_to in refl) in
      omega arith

-- a byte that is found before the end is in the list
pub in-found : (b : ℕ) (s : List ℕ) → up_to b s < length s → is_in b s ≡ true
unfolding up_to is_in
in-found b [] h = absurd (omega arith)
in-found b (c ∷ s) h = go (eqb c b) refl (in-found b s)
  where
    go : (x : Bool) → eqb c b ≡ x → (up_to b s < length s → is_in b s ≡ true) → is_in b (c ∷ s) ≡ true
    go true e ih = rw (eq-eqb b c (sym (eqb-true c b e)))
    go false e ih =
        let z : up_to b (c ∷ s) ≡ suc (up_to b s) = up-other b c s (eqb-false c b e) in
        rw (ne_eqb b c (λ f. eqb-false c b e (sym f))) (ih (omega arith))

pub in-none : (b : ℕ) (s : List ℕ) → length s ≤ up_to b s → is_in b s ≡ false
unfolding up_to is_in
in-none b [] h = refl
in-none b (c ∷ s) h = go (eqb c b) refl (in-none b s)
  where
    go : (x : Bool) → eqb c b ≡ x → (length s ≤ up_to b s → is_in b s ≡ false) → is_in b (c ∷ s) ≡ false
    go true e ih = let z : up_to b (c ∷ s) ≡ 0 = up_same b c s (eqb-true c b e) in absurd (omega arith)
    go false e ih =
        let z : up_to b (c ∷ s) ≡ suc (up_to b s) = up-other b c s (eqb-false c b e) in
        rw (ne_eqb b c (λ f. eqb-false c b e (sym f))) (ih (omega arith))

-- a line with no space is one field; else the first field ends at the first space, and the others follow it
pub one_field : (s : List ℕ) → up_to space s ≡ length s → fields_of s ≡ s ∷ []
unfolding fields_of
one_field [] h = refl
one_field (c ∷ s) h = go (eqb c space) refl (one_field s)
  where
    go : (x : Bool) → eqb c space ≡ x → (up_to space s ≡ length s → fields_of s ≡ s ∷ []) → fields_of (c ∷ s) ≡ (c ∷ s) ∷ []
    go true e ih = let z : up_to space (c ∷ s) ≡ 0 = up_same space c s (eqb-true c space e) in absurd (omega arith)
    go false e ih =
        let z : up_to space (c ∷ s) ≡ suc (up_to space s) = up-other space c s (eqb-false c space e) in
        rw (e, ih (omega arith)) (unfold with_byte in refl)

pub more-fields : (s : List ℕ) → up_to space s < length s → fields_of s ≡ take (up_to space s) s ∷ fields_of (drop (up_to space s + 1) s)
unfolding fields_of
more-fields [] h = absurd (omega arith)
more-fields (c ∷ s) h = go (eqb c space) refl (more-fields s)
  where
    go : (x : Bool) → eqb c space ≡ x → (up_to space s < length s → fields_of s ≡ take (up_to space s) s ∷ fields_of (drop (up_to space s + 1) s))
        → fields_of (c ∷ s) ≡ take (up_to space (c ∷ s)) (c ∷ s) ∷ fields_of (drop (up_to space (c ∷ s) + 1) (c ∷ s))
    go true e ih =
        let z : up_to space (c ∷ s) ≡ 0 = up_same space c s (eqb-true c space e) in
        rw (e, z) refl
    go false e ih =
        let z : up_to space (c ∷ s) ≡ suc (up_to space s) = up-other space c s (eqb-false c space e) in
        let y : suc (up_to space s) + 1 ≡ suc (up_to space s + 1) = omega arith in
        rw (e, z, y, ih (omega arith)) (unfold with_byte in refl)
