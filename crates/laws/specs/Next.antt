-- Next, told by what is present: the least path below p and greater than q.
use Rattle.std.specs.Prelude.{ℕ, ◌≡◌, refl, List, [], ◌∷◌, Bool, true, false}
use Rattle.image.specs.Prelude.{sym, ap, ◌∙◌, false≢true, none, some, cases}
use Rattle.image.specs.Bytes.{same, before, begins}
use Rattle.image.specs.Path.{below}
use Rattle.image.specs.Table.{Row, find, is_some, rows_below, rows_after, first_key, least_after, leads, rising}
use Rattle.octets.specs.Order.{and_left, and_right, not_so, same_refl, same-eq, before-trans}
use Rattle.laws.specs.Tables.{find-yes, find-no}

-- a path that is present, below p and greater than q
pub record Fits (p q : List ℕ) (t : List Row) (k : List ℕ) : Type 0 where
  pub present : is_some (find k t) ≡ true
  pub under : begins p k ≡ true
  pub after : before q k ≡ true

-- the first row decides, or else the later ones
pub least-yes : (p q : List ℕ) (r : Row) (t : List Row) → begins p r.key ≡ true → before q r.key ≡ true → least_after p q (r ∷ t) ≡ some r.key
unfolding least_after rows_below rows_after first_key below
least-yes p q r t a b = rw (a, b)

pub least-far : (p q : List ℕ) (r : Row) (t : List Row) → begins p r.key ≡ false → least_after p q (r ∷ t) ≡ least_after p q t
unfolding least_after rows_below rows_after first_key below
least-far p q r t a = rw a

pub least-early : (p q : List ℕ) (r : Row) (t : List Row) → before q r.key ≡ false → least_after p q (r ∷ t) ≡ least_after p q t
unfolding least_after rows_below rows_after first_key below
least-early p q r t b = cases (begins p r.key) (λ a. rw (a, b)) (λ a. rw a)

-- a later row's path, seen from the whole table
pub later-fits : (p q : List ℕ) (r : Row) (t : List Row) (k : List ℕ) → rising (r ∷ t) ≡ true → Fits p q t k → Fits p q (r ∷ t) k
unfolding rising
later-fits p q r t k e f = record { present = go (same k r.key) refl; under = f.under; after = f.after }
  where
    go : (x : Bool) → same k r.key ≡ x → is_some (find k (r ∷ t)) ≡ true
    go true s = rw (find-yes k r t s) is-some
      where
        is-some : is_some (some r.value) ≡ true
        is-some = unfold is_some in refl
    go false s = rw (find-no k r t s) f.present

-- a path that is not the first row's is among the later ones
not_first : (p q : List ℕ) (r : Row) (t : List Row) (k : List ℕ) → Fits p q (r ∷ t) k → same k r.key ≡ false → Fits p q t k
not_first p q r t k f s = record { present = rw (find-no k r t s) at f.present; under = f.under; after = f.after }

pub nil-none : (p q : List ℕ) → least_after p q [] ≡ none
unfolding least_after rows_below rows_after first_key
nil-none p q = refl

nil-present : (k : List ℕ) → is_some (find k []) ≡ true → ⊥
unfolding find is_some
nil-present k h = false≢true h

nil-fits : (p q k : List ℕ) → Fits p q [] k → ⊥
nil-fits p q k f = nil-present k f.present

pub first-present : (r : Row) (t : List Row) → is_some (find r.key (r ∷ t)) ≡ true
unfolding is_some
first-present r t = rw (find-yes r.key r t (same_refl r.key))

-- the first key of a rising table comes before every later path that is present
leads-before : (m k : List ℕ) (t : List Row) → leads m t ≡ true → rising t ≡ true → is_some (find k t) ≡ true → before m k ≡ true
unfolding leads rising
leads-before m k [] a e h = absurd (nil-present k h)
leads-before m k (r ∷ t) a e h =
    go (same k r.key) refl (λ g. leads-before r.key k t (and_left _ _ e) (and_right (leads r.key t) _ e) g)
  where
    go : (x : Bool) → same k r.key ≡ x → (is_some (find k t) ≡ true → before r.key k ≡ true) → before m k ≡ true
    go true s ih = rw (same-eq k r.key s) a
    go false s ih = before-trans m r.key k a (ih (rw (find-no k r t s) at h))

pub least-none : (p q : List ℕ) (t : List Row) → rising t ≡ true → ((k : List ℕ) → Fits p q t k → ⊥) → least_after p q t ≡ none
unfolding rising
least-none p q [] e h = nil-none p q
least-none p q (r ∷ t) e h =
    cases (begins p r.key)
    (λ a. cases (before q r.key) (λ b. absurd (h r.key (record { present = first-present r t; under = a; after = b })))
    (λ b. least-early p q r t b ∙ (least-none p q t (and_right (leads r.key t) _ e) (λ k f. h k (later-fits p q r t k e f)))))
    (λ a. least-far p q r t a ∙ (least-none p q t (and_right (leads r.key t) _ e) (λ k f. h k (later-fits p q r t k e f))))

pub least-is : (p q : List ℕ) (t : List Row) (k : List ℕ) → rising t ≡ true → Fits p q t k
    → ((m : List ℕ) → Fits p q t m → before m k ≡ false) → least_after p q t ≡ some k
unfolding rising
least-is p q [] k e f h = absurd (nil-fits p q k f)
least-is p q (r ∷ t) k e f h =
    go (same k r.key) refl
    (λ f'. least-is p q t k (and_right (leads r.key t) _ e) f' (λ m g. h m (later-fits p q r t m e g)))
  where
    rest : (f' : Fits p q t k) → least_after p q t ≡ some k → (x : Bool) → begins p r.key ≡ x → (y : Bool) → before q r.key ≡ y → least_after p q (r ∷ t) ≡ some k
    rest f' ih true a true b =
        not_so (leads-before r.key k t (and_left _ _ e) (and_right (leads r.key t) _ e) f'.present)
        (h r.key (record { present = first-present r t; under = a; after = b }))
    rest f' ih true a false b = least-early p q r t b ∙ ih
    rest f' ih false a y b = least-far p q r t a ∙ ih

    go : (x : Bool) → same k r.key ≡ x → (Fits p q t k → least_after p q t ≡ some k) → least_after p q (r ∷ t) ≡ some k
    go true s ih =
        let z : k ≡ r.key = same-eq k r.key s in
        least-yes p q r t (rw (← z) f.under) (rw (← z) f.after) ∙ ap some (sym z)
    go false s ih =
        let f' : Fits p q t k = not_first p q r t k f s in
        rest f' (ih f') (begins p r.key) refl (before q r.key) refl
