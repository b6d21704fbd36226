-- Numbers left out of a list, the others in their order: so they stay distinct and in range.
use Rattle.std.specs.Prelude.{ℕ, ◌≤◌, ◌<◌, ◌≡◌, refl, List, [], ◌∷◌, ◌++◌, Bool, true, false, ◌&&◌, ◌||◌, not, ltb, leb, eqb}
use Rattle.image.specs.Prelude.{subst, false≢true, arith, eqb-true, leb-true, ltb-true}
use Rattle.image.specs.Sound.{is_in, once, in_range}
use Rattle.octets.specs.Order.{and_left, and_right, not_so, not-true, not-false, refuted}
use Rattle.laws.specs.Rising.{both}
use Rattle.laws.specs.Frame.{or_right}

pub data Sub : List ℕ → List ℕ → Type 0 where
  empty : Sub [] []
  keep : {i : ℕ} {is js : List ℕ} → Sub is js → Sub (i ∷ is) (i ∷ js)
  gone : {j : ℕ} {is js : List ℕ} → Sub is js → Sub is (j ∷ js)

pub sub_refl : (is : List ℕ) → Sub is is
sub_refl [] = empty
sub_refl (i ∷ is) = keep (sub_refl is)

pub sub-none : (js : List ℕ) → Sub [] js
sub-none [] = empty
sub-none (j ∷ js) = gone (sub-none js)

pub sub-append : {is js ks ls : List ℕ} → Sub is js → Sub ks ls → Sub (is ++ ks) (js ++ ls)
sub-append empty t = t
sub-append (keep s) t = keep (sub-append s t)
sub-append (gone s) t = gone (sub-append s t)

pub sub_in : {is js : List ℕ} (j : ℕ) → Sub is js → is_in j is ≡ true → is_in j js ≡ true
unfolding is_in
sub_in j empty e = e
sub_in j (keep {i} {is} {js} s) e = go (eqb j i) refl (λ h. sub_in j s h)
  where
    go : (x : Bool) → eqb j i ≡ x → (is_in j is ≡ true → is_in j js ≡ true) → eqb j i || is_in j js ≡ true
    go true f ih = rw f
    go false f ih = rw f (ih (subst (λ x. x || is_in j is ≡ true) f e))
sub_in j (gone {j = i} {is} {js} s) e = or_right (eqb j i) (is_in j js) (sub_in j s e)

pub sub-not-in : {is js : List ℕ} (j : ℕ) → Sub is js → is_in j js ≡ false → is_in j is ≡ false
sub-not-in {is} {js} j s e = refuted (λ f. not_so (sub_in j s f) e)

pub once-sub : {is js : List ℕ} → Sub is js → once js ≡ true → once is ≡ true
unfolding once
once-sub empty e = refl
once-sub (keep {i} {is} {js} s) e =
    both (not-false (is_in i is) (sub-not-in i s (not-true (is_in i js) (and_left _ _ e)))) (once-sub s (and_right (not (is_in i js)) _ e))
once-sub (gone {j} {is} {js} s) e = once-sub s (and_right (not (is_in j js)) _ e)

pub range-sub : (n : ℕ) {is js : List ℕ} → Sub is js → in_range n js ≡ true → in_range n is ≡ true
unfolding in_range
range-sub n empty e = refl
range-sub n (keep {i} {is} {js} s) e = both (and_left (leb 1 i && ltb i n) _ e) (range-sub n s (and_right (leb 1 i && ltb i n) _ e))
range-sub n (gone {j} {is} {js} s) e = range-sub n s (and_right (leb 1 j && ltb j n) _ e)

-- a number of the list is in its range
pub range-of : (m j : ℕ) (is : List ℕ) → in_range m is ≡ true → is_in j is ≡ true → (1 ≤ j) × (j < m)
unfolding in_range is_in
range-of m j [] e c = absurd (false≢true c)
range-of m j (i ∷ is) e c = go (eqb j i) refl (λ b. range-of m j is (and_right (leb 1 i && ltb i m) _ e) b)
  where
    go : (x : Bool) → eqb j i ≡ x → (is_in j is ≡ true → (1 ≤ j) × (j < m)) → (1 ≤ j) × (j < m)
    go true a ih =
        let q : j ≡ i = eqb-true j i a in
        let low : 1 ≤ i = leb-true 1 i (and_left (leb 1 i) _ (and_left _ _ e)) in
        let high : i < m = ltb-true i m (and_right (leb 1 i) _ (and_left _ _ e)) in
        (omega arith, omega arith)
    go false a ih = ih (subst (λ x. x || is_in j is ≡ true) a c)
