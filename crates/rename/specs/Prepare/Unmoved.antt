-- A move of a path to itself leaves the table: the rows below it are set aside and come back.
-- Relies on the order's laws (octets) and on laws' rising tables.
use Rattle.std.specs.Prelude.{ℕ, ◌≡◌, refl, List, [], ◌∷◌, Bool, true, false, cond}
use Rattle.image.specs.Prelude.{sym, ap, ap₂, ◌∙◌, false≢true, cases}
use Rattle.image.specs.Bytes.{same, before, begins}
use Rattle.image.specs.Path.{below}
use Rattle.image.specs.Table.{Row, with_row, rows_below, without_below, renamed, put_all, moved, every_key, leads, rising}
use Rattle.octets.specs.Order.{and_left, and_right, same-eq, before-irrefl, before-trans, before-asym, begins-split}

renamed-same : (p : List ℕ) (t : List Row) → renamed p p (rows_below p t) ≡ rows_below p t
unfolding rows_below below renamed
renamed-same p [] = refl
renamed-same p (r ∷ t) =
    cases (begins p r.key) (λ e. rw e (ap₂ (λ k l. record { key = k; value = r.value } ∷ l) (begins-split p r.key e) (renamed-same p t)))
    (λ e. rw e (renamed-same p t))

without-twice : (p : List ℕ) (t : List Row) → without_below p (without_below p t) ≡ without_below p t
unfolding without_below below
without-twice p [] = refl
without-twice p (r ∷ t) = cases (begins p r.key) (λ e. rw e (without-twice p t)) (λ e. rw (e, e) (ap (λ l. r ∷ l) (without-twice p t)))

-- a row in front of all others is put in front
with_first : (r : Row) (t : List Row) → leads r.key t ≡ true → with_row r.key r.value t ≡ r ∷ t
unfolding with_row leads
with_first r [] e = refl
with_first r (q ∷ t) e = rw (before-asym r.key q.key e, before-turn) refl
  where
    before-turn : same r.key q.key ≡ false
    before-turn =
        cases (same r.key q.key) (λ h. absurd (false≢true (sym (before-irrefl q.key) ∙ ap (λ k. before k q.key) (sym (same-eq r.key q.key h)) ∙ e)))
        (λ h. h)

-- rows that all follow the first one are put behind it
put-behind : (r : Row) (rs t : List Row) → every_key (λ k. before r.key k) rs ≡ true → put_all rs (r ∷ t) ≡ r ∷ put_all rs t
unfolding put_all every_key
put-behind r [] t e = refl
put-behind r (q ∷ rs) t e =
    ap (with_row q.key q.value) (put-behind r rs t (and_right (before r.key q.key) _ e)) ∙ passed (put_all rs t)
  where
    passed : (u : List Row) → with_row q.key q.value (r ∷ u) ≡ r ∷ with_row q.key q.value u
    passed u = unfold with_row in rw (and_left (before r.key q.key) _ e) refl

-- the later rows of a rising table follow its first
later-follow : (k : List ℕ) (p : List ℕ) (t : List Row) → leads k t ≡ true → rising t ≡ true → every_key (λ q. before k q) (rows_below p t) ≡ true
unfolding rows_below below leads rising
later-follow k p [] e f = unfold every_key in refl
later-follow k p (r ∷ t) e f = go (begins p r.key) (later-follow k p t (next t (and_left (leads r.key t) _ f)) (and_right (leads r.key t) _ f))
  where
    next : (u : List Row) → leads r.key u ≡ true → leads k u ≡ true
    next [] h = refl
    next (q ∷ u) h = before-trans k r.key q.key e h

    go : (x : Bool) → every_key (λ q. before k q) (rows_below p t) ≡ true → every_key (λ q. before k q) (cond x (r ∷ rows_below p t) (rows_below p t)) ≡ true
    go true ih = unfold every_key in rw e ih
    go false ih = ih

put_back : (p : List ℕ) (t : List Row) → rising t ≡ true → put_all (rows_below p t) (without_below p t) ≡ t
unfolding rows_below without_below below rising
put_back p [] f = unfold put_all in refl
put_back p (r ∷ t) f = go (begins p r.key) (put_back p t (and_right (leads r.key t) _ f))
  where
    go : (x : Bool) → put_all (rows_below p t) (without_below p t) ≡ t
        → put_all (cond x (r ∷ rows_below p t) (rows_below p t)) (cond x (without_below p t) (r ∷ without_below p t)) ≡ r ∷ t
    go true ih = unfold put_all in (ap (with_row r.key r.value) ih ∙ with_first r t (and_left (leads r.key t) _ f))
    go false ih =
        put-behind r (rows_below p t) (without_below p t) (later-follow r.key p t (and_left (leads r.key t) _ f) (and_right (leads r.key t) _ f)) ∙ ap (λ l. r ∷ l) ih

pub moved_nowhere : (p : List ℕ) (t : List Row) → rising t ≡ true → moved p p t ≡ t
unfolding moved
moved_nowhere p t f = ap₂ put_all (renamed-same p t) (without-twice p t) ∙ put_back p t f
