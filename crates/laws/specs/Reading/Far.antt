-- A skip that is fair: a child that no wanted path can stand in may be left out of the walk for next. Relies on Seek.
use Rattle.std.specs.Prelude.{ℕ, ◌≡◌, refl, List, [], ◌∷◌, ◌⊎◌, Bool, true, false, ◌&&◌, ◌||◌, not, eqb}
use Rattle.image.specs.Prelude.{ap, inl, inr, false≢true, Option, none, some, cases}
use Rattle.image.specs.Bytes.{before, begins, shared}
use Rattle.image.specs.Path.{well_formed}
use Rattle.octets.specs.Order.{and_left, and_right, not_so, not-true, before-trans, before-irrefl, before-asym, before-le, between-begins, le-before}
use Rattle.laws.specs.Rising.{one_key}
use Rattle.laws.specs.LookupTable.{not_low, under-high}
use Rattle.laws.specs.Reading.Seek.{better, holds, wanted}
use Rattle.octets.specs.Beginnings.{begins-not-before}

-- It is fair where the child ends at or before `below` or `after`, or starts past all that begins with `below`, or starts at the best or later.
unfoldable pub far_from : List ℕ → List ℕ → List ℕ → List ℕ → Option (List ℕ) → Bool
far_from below after lo hi best =
    not (before below hi) || not (before after hi) || (before below lo && not (begins below lo)) || not (better best lo)

-- what lies between `below` and an extension of it begins with it
begins-shared : (below k : List ℕ) → begins below k ≡ true → shared below k ≡ below
unfolding begins shared
begins-shared [] k e = refl
begins-shared (a ∷ below) [] e = absurd (false≢true e)
begins-shared (a ∷ below) (b ∷ k) e = rw (and_left (eqb a b) (begins below k) e) (ap (λ l. a ∷ l) (begins-shared below k (and_right (eqb a b) _ e)))

between : (below k lo : List ℕ) → begins below k ≡ true → before lo below ≡ false → before k lo ≡ false → begins below lo ≡ true
between below k lo e a b = cases (before lo k) (λ c. rw (begins-shared below k e) at (between-begins below k lo a c)) (λ c. rw (one_key lo k c b) e)

or_cases : (a b : Bool) → a || b ≡ true → (a ≡ true) ⊎ (b ≡ true)
or_cases true b e = inl refl
or_cases false b e = inr e

unwanted : (below after : List ℕ) (best : Option (List ℕ)) (k : List ℕ) → (begins below k ≡ true → before after k ≡ true → better best k ≡ true → ⊥) → not (wanted below after best k) ≡ true
unfolding wanted
unwanted below after best k h = go (begins below k) refl (before after k) refl (better best k) refl
  where
    go : (x : Bool) → begins below k ≡ x → (y : Bool) → before after k ≡ y → (z : Bool) → better best k ≡ z → not (begins below k && before after k && better best k) ≡ true
    go true a true b true c = absurd (h a b c)
    go true a true b false c = rw (a, b, c)
    go true a false b z c = rw (a, b)
    go false a y b z c = rw a

better-low : (best : Option (List ℕ)) (lo k : List ℕ) → before k lo ≡ false → better best k ≡ true → better best lo ≡ true
unfolding better
better-low none lo k a b = refl
better-low (some m) lo k a b = le-before lo k m a b

-- k < hi and not m < hi: not m < k
beyond : (m k hi : List ℕ) → before k hi ≡ true → before m hi ≡ false → before k m ≡ true
beyond m k hi a b = before-le k hi m a b

pub far-fair : (below after lo hi : List ℕ) (best : Option (List ℕ)) → far_from below after lo hi best ≡ true → (k : List ℕ) → holds lo hi k ≡ true → not (wanted below after best k) ≡ true
unfolding far_from holds
far-fair below after lo hi best s k h = unwanted below after best k (λ a b c. go a b c (or_cases _ _ s))
  where
    low : before k lo ≡ false
    low = not_low lo hi k (and_right (well_formed k) _ h)

    high : before k hi ≡ true
    high = under-high lo hi k (and_right (well_formed k) _ h)

    first : begins below k ≡ true → before after k ≡ true → (not (before below hi) ≡ true) ⊎ (not (before after hi) ≡ true) → ⊥
    first a b (inl x) = not_so (beyond below k hi high (not-true (before below hi) x)) (begins-not-before below k a)
    first a b (inr x) = not_so (before-trans k after k (beyond after k hi high (not-true (before after hi) x)) b) (before-irrefl k)

    second : begins below k ≡ true → before after k ≡ true → (not (before below hi) || not (before after hi) ≡ true) ⊎ (before below lo && not (begins below lo) ≡ true) → ⊥
    second a b (inl x) = first a b (or_cases _ _ x)
    second a b (inr x) =
        not_so (between below k lo a (before-asym below lo (and_left (before below lo) (not (begins below lo)) x)) low)
        (not-true (begins below lo) (and_right (before below lo) _ x))

    go : begins below k ≡ true → before after k ≡ true → better best k ≡ true
        → (not (before below hi) || not (before after hi) || (before below lo && not (begins below lo)) ≡ true) ⊎ (not (better best lo) ≡ true) → ⊥
    go a b c (inl x) = second a b (or_cases _ _ x)
    go a b c (inr x) = not_so (better-low best lo k low c) (not-true (better best lo) x)
