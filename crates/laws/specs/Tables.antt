-- Laws of a table: what is found after each change of it.
use Rattle.std.specs.Prelude.{length, ℕ, suc, ◌+◌, ◌≤◌, ◌≡◌, refl, List, [], ◌∷◌, ◌++◌, Bool, true, false, cond}
use Rattle.image.specs.Prelude.{sym, ap, ◌∙◌, none, some, Option·none-ne-some, arith, cases}
use Rattle.image.specs.Bytes.{same, before, begins}
use Rattle.image.specs.Path.{below}
use Rattle.image.specs.Table.{Row, find, with_row, without, rows_below, without_below, put_all, under_prefix, every_key}
use Rattle.octets.specs.Order.{same_refl, same-eq, before-not-same, same-append, not_so, same_false, and_left, and_right}

pub find-nil : (q : List ℕ) → find q [] ≡ none
unfolding find
find-nil q = refl

pub find-yes : (p : List ℕ) (r : Row) (t : List Row) → same p r.key ≡ true → find p (r ∷ t) ≡ some r.value
unfolding find
find-yes p r t e = rw e

pub find-no : (p : List ℕ) (r : Row) (t : List Row) → same p r.key ≡ false → find p (r ∷ t) ≡ find p t
unfolding find
find-no p r t e = rw e

-- both rows on the same rest
find-cons : (p : List ℕ) (r : Row) (t u : List Row) → find p t ≡ find p u → find p (r ∷ t) ≡ find p (r ∷ u)
find-cons p r t u h = cases (same p r.key) (λ e. find-yes p r t e ∙ sym (find-yes p r u e)) (λ e. find-no p r t e ∙ h ∙ sym (find-no p r u e))

pub find-with : (p v : List ℕ) (t : List Row) → find p (with_row p v t) ≡ some v
unfolding with_row
find-with p v [] = find-yes p (record { key = p; value = v }) [] (same_refl p)
find-with p v (r ∷ t) = go (before r.key p) refl (same p r.key) refl (find-with p v t)
  where
    go : (x : Bool) → before r.key p ≡ x → (y : Bool) → same p r.key ≡ y → find p (with_row p v t) ≡ some v → find p (with_row p v (r ∷ t)) ≡ some v
    go true e y f ih = rw e (find-no p r (with_row p v t) (before-not-same r.key p e) ∙ ih)
    go false e true f ih = rw (e, f) (find-yes p (record { key = p; value = v }) t (same_refl p))
    go false e false f ih = rw (e, f) (find-yes p (record { key = p; value = v }) (r ∷ t) (same_refl p))

pub find-with-other : (q p v : List ℕ) (t : List Row) → same q p ≡ false → find q (with_row p v t) ≡ find q t
unfolding with_row
find-with-other q p v [] n = find-no q (record { key = p; value = v }) [] n
find-with-other q p v (r ∷ t) n = go (before r.key p) refl (same p r.key) refl (find-with-other q p v t n)
  where
    go : (x : Bool) → before r.key p ≡ x → (y : Bool) → same p r.key ≡ y → find q (with_row p v t) ≡ find q t → find q (with_row p v (r ∷ t)) ≡ find q (r ∷ t)
    go true e y f ih = rw e (find-cons q r (with_row p v t) t ih)
    go false e true f ih =
        rw (e, f) (find-no q (record { key = p; value = v }) t n ∙ sym (find-no q r t (rw (← same-eq p r.key f) n)))
    go false e false f ih = rw (e, f) (find-no q (record { key = p; value = v }) (r ∷ t) n)

pub find-without : (p : List ℕ) (t : List Row) → find p (without p t) ≡ none
unfolding without find
find-without p [] = refl
find-without p (r ∷ t) = cases (same p r.key) (λ e. rw e (find-without p t)) (λ e. rw e (find-no p r (without p t) e ∙ (find-without p t)))

pub find-without-other : (q p : List ℕ) (t : List Row) → same q p ≡ false → find q (without p t) ≡ find q t
unfolding without
find-without-other q p [] n = refl
find-without-other q p (r ∷ t) n =
    cases (same p r.key) (λ e. rw e ((find-without-other q p t n) ∙ sym (find-no q r t (rw (← same-eq p r.key e) n))))
    (λ e. rw e (find-cons q r (without p t) t (find-without-other q p t n)))

pub find-cleared : (q p : List ℕ) (t : List Row) → begins p q ≡ true → find q (without_below p t) ≡ none
unfolding without_below below find
find-cleared q p [] h = refl
find-cleared q p (r ∷ t) h = go (begins p r.key) refl (find-cleared q p t h)
  where
    go : (x : Bool) → begins p r.key ≡ x → find q (without_below p t) ≡ none → find q (without_below p (r ∷ t)) ≡ none
    go true e ih = rw e ih
    go false e ih =
        rw e (find-no q r (without_below p t) (differ q r.key h e) ∙ ih)
      where
        differ : (a b : List ℕ) → begins p a ≡ true → begins p b ≡ false → same a b ≡ false
        differ a b h e = same_false a b (λ z. not_so h (rw z e))

pub find-spared : (q p : List ℕ) (t : List Row) → begins p q ≡ false → find q (without_below p t) ≡ find q t
unfolding without_below below
find-spared q p [] h = refl
find-spared q p (r ∷ t) h =
    cases (begins p r.key) (λ e. rw e ((find-spared q p t h) ∙ sym (find-no q r t (same_false q r.key (λ z. not_so (rw z e) h)))))
    (λ e. rw e (find-cons q r (without_below p t) t (find-spared q p t h)))

pub find-append-none : (p : List ℕ) (t u : List Row) → find p t ≡ none → find p (t ++ u) ≡ find p u
find-append-none p [] u h = refl
find-append-none p (r ∷ t) u h =
    cases (same p r.key) (λ e. let z : ◌≡◌ {A = ℕ} 0 1 = cc (find-yes p r t e) in absurd (omega arith))
    (λ e. find-no p r (t ++ u) e ∙ (find-append-none p t u) (sym (find-no p r t e) ∙ h))

pub find-append-some : (p : List ℕ) (t u : List Row) → find p u ≡ none → find p (t ++ u) ≡ find p t
unfolding find
find-append-some p [] u h = h
find-append-some p (r ∷ t) u h = find-cons p r (t ++ u) t (find-append-some p t u h)

pub find-under : (l q : List ℕ) (t : List Row) → find (l ++ q) (under_prefix l t) ≡ find q t
unfolding under_prefix find
find-under l q [] = refl
find-under l q (r ∷ t) =
    cases (same q r.key) (λ e. find-yes (l ++ q) _ (under_prefix l t) (same-append l q r.key ∙ e) ∙ sym (find-yes q r t e))
    (λ e. find-no (l ++ q) _ (under_prefix l t) (same-append l q r.key ∙ e) ∙ (find-under l q t) ∙ sym (find-no q r t e))

-- a path that fails a test of every key is not found
pub find-fails : (test : List ℕ → Bool) (q : List ℕ) (t : List Row) → every_key test t ≡ true → test q ≡ false → find q t ≡ none
unfolding every_key find
find-fails test q [] e f = refl
find-fails test q (r ∷ t) e f =
    find-no q r t (same_false q r.key (λ z. not_so (rw z (and_left _ _ e)) f)) ∙ find-fails test q t (and_right (test r.key) _ e) f

-- a put makes at most one row more
pub with-length : (p v : List ℕ) (t : List Row) → length (with_row p v t) ≤ suc (length t)
unfolding with_row
with-length p v [] = omega arith
with-length p v (r ∷ t) = go (before r.key p) (same p r.key) (with-length p v t)
  where
    go : (x y : Bool) → length (with_row p v t) ≤ suc (length t)
        → length (cond x (r ∷ with_row p v t) (cond y (record { key = p; value = v } ∷ t) (record { key = p; value = v } ∷ r ∷ t))) ≤ suc (suc (length t))
    go true y ih = omega arith
    go false true ih = omega arith
    go false false ih = omega arith

pub put-length : (u t : List Row) → length (put_all u t) ≤ length u + length t
unfolding put_all
put-length [] t = omega arith
put-length (r ∷ u) t = omega (arith, with-length r.key r.value (put_all u t), put-length u t)

-- rows put into a table that lack a path leave what is found of it
pub find-put-other : (p : List ℕ) (u t : List Row) → find p u ≡ none → find p (put_all u t) ≡ find p t
unfolding put_all
find-put-other p [] t h = refl
find-put-other p (r ∷ u) t h = by_key (same p r.key) refl (find-put-other p u t)
  where
    by_key : (x : Bool) → same p r.key ≡ x → (find p u ≡ none → find p (put_all u t) ≡ find p t)
        → find p (with_row r.key r.value (put_all u t)) ≡ find p t
    by_key true e ih = absurd (Option·none-ne-some r.value (sym h ∙ find-yes p r u e))
    by_key false e ih = find-with-other p r.key r.value (put_all u t) e ∙ ih (sym (find-no p r u e) ∙ h)

-- "every path is below" the empty one (request S-1): all rows are below it, and a clear of it leaves none
pub below-empty : (t : List Row) → rows_below [] t ≡ t
unfolding rows_below below begins
below-empty [] = refl
below-empty (r ∷ t) = ap (λ u. r ∷ u) (below-empty t)

pub clear-empty : (t : List Row) → without_below [] t ≡ []
unfolding without_below below begins
clear-empty [] = refl
clear-empty (r ∷ t) = clear-empty t
