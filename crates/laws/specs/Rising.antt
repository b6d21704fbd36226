-- Tables whose keys strictly rise: every change keeps that, and two such tables that hold the same are equal.
use Rattle.std.specs.Prelude.{ℕ, ◌≡◌, refl, List, [], ◌∷◌, Bool, true, false, ◌&&◌}
use Rattle.image.specs.Prelude.{sym, ap₂, ◌∙◌, none, Option·some-injective, Option·none-ne-some, cases}
use Rattle.image.specs.Bytes.{same, before}
use Rattle.image.specs.Path.{below}
use Rattle.image.specs.Table.{Row, find, with_row, without, without_below, leads, rising}
use Rattle.octets.specs.Order.{and_left, and_right, not_so, same_refl, same-eq, same_turn, before-trans, before-not-same, before-total}
use Rattle.laws.specs.Tables.{find-nil, find-yes, find-no}

pub both : {a b : Bool} → a ≡ true → b ≡ true → a && b ≡ true
both p q = rw (p, q)

-- two tests that pass together are one
pub both_ways : (a b : Bool) → (a ≡ true → b ≡ true) → (b ≡ true → a ≡ true) → a ≡ b
both_ways true b f g = sym (f refl)
both_ways false true f g = g refl
both_ways false false f g = refl

pub leads-trans : (k m : List ℕ) (t : List Row) → before k m ≡ true → leads m t ≡ true → leads k t ≡ true
unfolding leads
leads-trans k m [] e f = refl
leads-trans k m (r ∷ t) e f = before-trans k m r.key e f

leads-with : (k p v : List ℕ) (t : List Row) → before k p ≡ true → leads k t ≡ true → leads k (with_row p v t) ≡ true
unfolding leads with_row
leads-with k p v [] e f = e
leads-with k p v (r ∷ t) e f = go (before r.key p) refl (same p r.key) refl
  where
    go : (x : Bool) → before r.key p ≡ x → (y : Bool) → same p r.key ≡ y → leads k (with_row p v (r ∷ t)) ≡ true
    go true a y b = rw a f
    go false a true b = rw (a, b) e
    go false a false b = rw (a, b) e

pub rising-with : (p v : List ℕ) (t : List Row) → rising t ≡ true → rising (with_row p v t) ≡ true
unfolding rising with_row leads
rising-with p v [] e = refl
rising-with p v (r ∷ t) e = go (before r.key p) refl (same p r.key) refl (rising-with p v t (and_right (leads r.key t) _ e))
  where
    go : (x : Bool) → before r.key p ≡ x → (y : Bool) → same p r.key ≡ y → rising (with_row p v t) ≡ true → rising (with_row p v (r ∷ t)) ≡ true
    go true a y b ih = rw a (both (leads-with r.key p v t a (and_left _ _ e)) ih)
    go false a true b ih = rw (a, b) (rw (same-eq p r.key b) e)
    go false a false b ih = rw (a, b) (both (before-total p r.key b a) e)

leads-without : (k p : List ℕ) (t : List Row) → rising t ≡ true → leads k t ≡ true → leads k (without p t) ≡ true
unfolding leads without rising
leads-without k p [] e f = refl
leads-without k p (r ∷ t) e f =
    cases (same p r.key) (λ a. rw a (leads-without k p t (and_right (leads r.key t) _ e) (leads-trans k r.key t f (and_left _ _ e))))
    (λ a. rw a f)

pub rising-without : (p : List ℕ) (t : List Row) → rising t ≡ true → rising (without p t) ≡ true
unfolding rising without
rising-without p [] e = refl
rising-without p (r ∷ t) e =
    cases (same p r.key) (λ a. rw a (rising-without p t (and_right (leads r.key t) _ e)))
    (λ a. rw a (both (leads-without r.key p t (and_right (leads r.key t) _ e) (and_left _ _ e)) (rising-without p t (and_right (leads r.key t) _ e))))

leads-cleared : (k p : List ℕ) (t : List Row) → rising t ≡ true → leads k t ≡ true → leads k (without_below p t) ≡ true
unfolding leads without_below rising
leads-cleared k p [] e f = refl
leads-cleared k p (r ∷ t) e f =
    cases (below r.key p) (λ a. rw a (leads-cleared k p t (and_right (leads r.key t) _ e) (leads-trans k r.key t f (and_left _ _ e))))
    (λ a. rw a f)

pub rising-cleared : (p : List ℕ) (t : List Row) → rising t ≡ true → rising (without_below p t) ≡ true
unfolding rising without_below
rising-cleared p [] e = refl
rising-cleared p (r ∷ t) e =
    cases (below r.key p) (λ a. rw a (rising-cleared p t (and_right (leads r.key t) _ e)))
    (λ a. rw a (both (leads-cleared r.key p t (and_right (leads r.key t) _ e) (and_left _ _ e)) (rising-cleared p t (and_right (leads r.key t) _ e))))

-- a path before the first key is not found
pub find-leads : (k : List ℕ) (t : List Row) → rising t ≡ true → leads k t ≡ true → find k t ≡ none
unfolding leads rising
find-leads k [] e f = find-nil k
find-leads k (r ∷ t) e f =
    find-no k r t (same_turn r.key k (before-not-same k r.key f))
    ∙ find-leads k t (and_right (leads r.key t) _ e) (leads-trans k r.key t f (and_left _ _ e))

pub row-path : (r q : Row) → r.key ≡ q.key → r.value ≡ q.value → r ≡ q
row-path r q a b = λ i. record { key = a i; value = b i }

pub one_key : (k m : List ℕ) → before k m ≡ false → before m k ≡ false → k ≡ m
one_key k m a b = cases (same k m) (λ e. same-eq k m e) (λ e. not_so (before-total k m e b) a)

tails-same : (r q : Row) (t u : List Row) → rising (r ∷ t) ≡ true → rising (q ∷ u) ≡ true → ((p : List ℕ) → find p (r ∷ t) ≡ find p (q ∷ u))
    → r.key ≡ q.key → (p : List ℕ) → find p t ≡ find p u
unfolding rising
tails-same r q t u e f h z p = go (same p r.key) refl
  where
    go : (x : Bool) → same p r.key ≡ x → find p t ≡ find p u
    go true a =
        let w : p ≡ r.key = same-eq p r.key a in
        let left : find p t ≡ none = rw w (find-leads r.key t (and_right (leads r.key t) _ e) (and_left _ _ e)) in
        let right : find p u ≡ none = rw (w ∙ z) (find-leads q.key u (and_right (leads q.key u) _ f) (and_left _ _ f)) in
        left ∙ sym right
    go false a = sym (find-no p r t a) ∙ h p ∙ find-no p q u (rw (← z) a)

heads-same : (r q : Row) (t u : List Row) → rising (r ∷ t) ≡ true → rising (q ∷ u) ≡ true → ((p : List ℕ) → find p (r ∷ t) ≡ find p (q ∷ u))
    → r.key ≡ q.key → (((p : List ℕ) → find p t ≡ find p u) → t ≡ u) → ◌≡◌ {A = List Row} (r ∷ t) (q ∷ u)
heads-same r q t u e f h z ih =
    ap₂ (λ x l. x ∷ l)
    (row-path r q z (Option·some-injective r.value q.value
    (sym (find-yes r.key r t (same_refl r.key)) ∙ h r.key ∙ find-yes r.key q u (rw z (same_refl q.key)))))
    (ih (tails-same r q t u e f h z))

-- two rising tables that hold the same are equal
pub table-ext : (t u : List Row) → rising t ≡ true → rising u ≡ true → ((p : List ℕ) → find p t ≡ find p u) → t ≡ u
unfolding rising leads
table-ext [] [] e f h = refl
table-ext [] (q ∷ u) e f h = absurd (Option·none-ne-some q.value (sym (find-nil q.key) ∙ h q.key ∙ find-yes q.key q u (same_refl q.key)))
table-ext (r ∷ t) [] e f h = absurd (Option·none-ne-some r.value (sym (find-nil r.key) ∙ sym (h r.key) ∙ find-yes r.key r t (same_refl r.key)))
table-ext (r ∷ t) (q ∷ u) e f h =
    go (before r.key q.key) refl (before q.key r.key) refl (λ g. table-ext t u (and_right (leads r.key t) _ e) (and_right (leads q.key u) _ f) g)
  where
    go : (x : Bool) → before r.key q.key ≡ x → (y : Bool) → before q.key r.key ≡ y
        → (((p : List ℕ) → find p t ≡ find p u) → t ≡ u) → ◌≡◌ {A = List Row} (r ∷ t) (q ∷ u)
    go true a y b ih =
        absurd (Option·none-ne-some r.value (sym (find-leads r.key (q ∷ u) f a) ∙ sym (h r.key) ∙ find-yes r.key r t (same_refl r.key)))
    go false a true b ih =
        absurd (Option·none-ne-some q.value (sym (find-leads q.key (r ∷ t) e b) ∙ h q.key ∙ find-yes q.key q u (same_refl q.key)))
    go false a false b ih = heads-same r q t u e f h (one_key r.key q.key a b) ih
