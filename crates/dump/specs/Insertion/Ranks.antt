-- The place of a path among rows: what one comparison says of it where the rows rise, and that the path's row is put there.
-- Relies on the order of paths (`octets`) and on the laws of tables (`laws`).
use Rattle.std.specs.Prelude.{ℕ, zero, suc, ◌+◌, ◌-◌, ◌≤◌, ◌<◌, ◌≡◌, refl, List, [], ◌∷◌, ◌++◌, Bool, true, false, length}
use Rattle.image.specs.Prelude.{sym, ap, ◌∙◌, none, Option·none-ne-some, arith}
use Rattle.image.specs.Bytes.{same, before}
use Rattle.image.specs.Table.{Row, find, is_some, with_row, leads, rising}
use Rattle.octets.specs.Order.{and_left, and_right, before-trans, before-not-same, before-total}
use Rattle.laws.specs.Tables.{find-nil, find-yes, find-no}
use Rattle.laws.specs.Rising.{find-leads}
use Rattle.packed.specs.Rows.Area.{row_at, rows_of}
use Rattle.packed.specs.Rows.Steps.{rows-length}
use Rattle.dump.specs.Insertion.Insertion.{rank}

rank-passes : (p : List ℕ) (r : Row) (t : List Row) → before r.key p ≡ true → rank p (r ∷ t) ≡ suc (rank p t)
unfolding rank
rank-passes p r t e = rw e

rank-stops : (p : List ℕ) (r : Row) (t : List Row) → before r.key p ≡ false → rank p (r ∷ t) ≡ 0
unfolding rank
rank-stops p r t e = rw e

rank_most : (p : List ℕ) (t : List Row) → rank p t ≤ length t
unfolding rank
rank_most p [] = omega arith
rank_most p (r ∷ t) = go (before r.key p) refl (rank_most p t)
  where
    go : (x : Bool) → before r.key p ≡ x → rank p t ≤ length t → rank p (r ∷ t) ≤ suc (length t)
    go true e h = let q = rank-passes p r t e in omega arith
    go false e h = let q = rank-stops p r t e in omega arith

-- a key before the first row comes before the path if that row does
leads-before : (k p : List ℕ) (t : List Row) → leads k t ≡ true → 0 < rank p t → before k p ≡ true
unfolding leads rank
leads-before k p [] e h = absurd (omega arith)
leads-before k p (r ∷ t) e h = go (before r.key p) refl
  where
    go : (x : Bool) → before r.key p ≡ x → before k p ≡ true
    go true f = before-trans k r.key p e f
    go false f = let q = rank-stops p r t f in absurd (omega arith)

-- row j of the rows from i on comes before the path: the path's place is behind it
row-passes : (j k : ℕ) (area : List ℕ) (i : ℕ) (p : List ℕ) → rising (rows_of k area i) ≡ true → j < k → before (row_at area (i + j)).key p ≡ true
    → j < rank p (rows_of k area i)
unfolding rows_of rising
row-passes j zero area i p e h f = absurd (omega arith)
row-passes zero (suc k) area i p e h f =
    let z : i + 0 ≡ i = omega arith in
    let q = rank-passes p (row_at area i) (rows_of k area (suc i)) (rw z at f) in
    omega arith
row-passes (suc j) (suc k) area i p e h f =
    let z : i + suc j ≡ suc i + j = omega arith in
    let g = row-passes j k area (suc i) p (and_right (leads (row_at area i).key (rows_of k area (suc i))) _ e) (omega arith) (rw z at f) in
    let b = leads-before (row_at area i).key p (rows_of k area (suc i)) (and_left _ _ e) (omega arith) in
    let q = rank-passes p (row_at area i) (rows_of k area (suc i)) b in
    omega arith

-- it does not: the path's place is not behind it
row-stops : (j k : ℕ) (area : List ℕ) (i : ℕ) (p : List ℕ) → j < k → before (row_at area (i + j)).key p ≡ false → rank p (rows_of k area i) ≤ j
unfolding rows_of
row-stops j zero area i p h f = absurd (omega arith)
row-stops zero (suc k) area i p h f =
    let z : i + 0 ≡ i = omega arith in
    let q = rank-stops p (row_at area i) (rows_of k area (suc i)) (rw z at f) in
    omega arith
row-stops (suc j) (suc k) area i p h f =
    let z : i + suc j ≡ suc i + j = omega arith in
    go (before (row_at area i).key p) refl (row-stops j k area (suc i) p (omega arith) (rw z at f))
  where
    go : (x : Bool) → before (row_at area i).key p ≡ x → rank p (rows_of k area (suc i)) ≤ j → rank p (row_at area i ∷ rows_of k area (suc i)) ≤ suc j
    go true e g = let q = rank-passes p (row_at area i) (rows_of k area (suc i)) e in omega arith
    go false e g = let q = rank-stops p (row_at area i) (rows_of k area (suc i)) e in omega arith

-- the same for the search, which counts the rows from the area's start
module _ (area : List ℕ) (from m : ℕ) (p : List ℕ) where
  pub place-most : from ≤ m → from + rank p (rows_of (m - from) area from) ≤ m
  place-most h =
      let a = rank_most p (rows_of (m - from) area from) in
      let b = rows-length (m - from) area from in
      omega arith

  module _ (middle : ℕ) (low : from ≤ middle) (high : middle < m) where
    pub place-behind : rising (rows_of (m - from) area from) ≡ true → before (row_at area middle).key p ≡ true
        → middle + 1 ≤ from + rank p (rows_of (m - from) area from)
    place-behind e f =
        let z : middle ≡ from + (middle - from) = omega arith in
        let g : before (row_at area (from + (middle - from))).key p ≡ true = rw (← z) f in
        let q = row-passes (middle - from) (m - from) area from p e (omega arith) g in
        omega arith

    pub place-upto : before (row_at area middle).key p ≡ false → from + rank p (rows_of (m - from) area from) ≤ middle
    place-upto f =
        let z : middle ≡ from + (middle - from) = omega arith in
        let g : before (row_at area (from + (middle - from))).key p ≡ false = rw (← z) f in
        let q = row-stops (middle - from) (m - from) area from p (omega arith) g in
        omega arith

-- a path that the rows do not have goes between those before its place and those from it on
pub with_at : (p v : List ℕ) (t u : List Row) → rank p (t ++ u) ≡ length t → find p (t ++ u) ≡ none
    → with_row p v (t ++ u) ≡ t ++ (record { key = p; value = v } ∷ u)
unfolding with_row rank
with_at p v [] [] e f = refl
with_at p v [] (r ∷ u) e f = go (before r.key p) refl (same p r.key) refl
  where
    go : (x : Bool) → before r.key p ≡ x → (y : Bool) → same p r.key ≡ y → with_row p v (r ∷ u) ≡ record { key = p; value = v } ∷ r ∷ u
    go true a y b = let q = rank-passes p r u a in absurd (omega arith)
    go false a true b = absurd (Option·none-ne-some r.value (sym f ∙ find-yes p r u b))
    go false a false b = rw (a, b)
with_at p v (r ∷ t) u e f = go (before r.key p) refl (with_at p v t u)
  where
    go : (x : Bool) → before r.key p ≡ x
        → (rank p (t ++ u) ≡ length t → find p (t ++ u) ≡ none → with_row p v (t ++ u) ≡ t ++ (record { key = p; value = v } ∷ u))
        → with_row p v (r ∷ (t ++ u)) ≡ r ∷ (t ++ (record { key = p; value = v } ∷ u))
    go true a ih =
        let q = rank-passes p r (t ++ u) a in
        rw a (ap (λ l. r ∷ l) (ih (omega arith) (sym (find-no p r (t ++ u) (before-not-same r.key p a)) ∙ f)))
    go false a ih = let q = rank-stops p r (t ++ u) a in absurd (omega arith)

-- a rank among rows passes the first of those before it
rank-past : (p : List ℕ) (r : Row) (t : List Row) (n : ℕ) → rank p (r ∷ t) ≡ suc n → (before r.key p ≡ true) × (rank p t ≡ n)
rank-past p r t n e = go (before r.key p) refl
  where
    go : (x : Bool) → before r.key p ≡ x → (before r.key p ≡ true) × (rank p t ≡ n)
    go true a = let q = rank-passes p r t a in (a, omega arith)
    go false a = let q = rank-stops p r t a in absurd (omega arith)

-- a path whose place is behind all rows is none of theirs
pub absent-end : (p : List ℕ) (t : List Row) → rank p t ≡ length t → find p t ≡ none
absent-end p [] e = find-nil p
absent-end p (r ∷ t) e =
    let a = rank-past p r t (length t) e in
    find-no p r t (before-not-same r.key p a.0) ∙ absent-end p t a.1

-- the row at a path's place has another path: the path is none of theirs
pub absent-at : (p : List ℕ) (t : List Row) (r : Row) (u : List Row) → rising (t ++ (r ∷ u)) ≡ true → rank p (t ++ (r ∷ u)) ≡ length t → same p r.key ≡ false
    → find p (t ++ (r ∷ u)) ≡ none
unfolding rising
absent-at p [] r u e k n = go (before r.key p) refl
  where
    go : (x : Bool) → before r.key p ≡ x → find p (r ∷ u) ≡ none
    go true a = let q = rank-passes p r u a in absurd (omega arith)
    go false a = find-leads p (r ∷ u) (unfold rising in e) (leads-first (before-total p r.key n a))
      where
        leads-first : before p r.key ≡ true → leads p (r ∷ u) ≡ true
        leads-first h = unfold leads in h
absent-at p (q ∷ t) r u e k n =
    let a = rank-past p q (t ++ (r ∷ u)) (length t) k in
    find-no p q (t ++ (r ∷ u)) (before-not-same q.key p a.0) ∙ absent-at p t r u (and_right (leads q.key (t ++ (r ∷ u))) _ e) a.1 n

-- it has the path: its value is replaced
pub with-over : (p v : List ℕ) (t : List Row) (r : Row) (u : List Row) → rank p (t ++ (r ∷ u)) ≡ length t → same p r.key ≡ true
    → with_row p v (t ++ (r ∷ u)) ≡ t ++ (record { key = p; value = v } ∷ u)
unfolding with_row
with-over p v [] r u k n = go (before r.key p) refl
  where
    go : (x : Bool) → before r.key p ≡ x → with_row p v (r ∷ u) ≡ record { key = p; value = v } ∷ u
    go true a = let q = rank-passes p r u a in absurd (omega arith)
    go false a = rw (a, n)
with-over p v (q ∷ t) r u k n =
    let a = rank-past p q (t ++ (r ∷ u)) (length t) k in
    rw a.0 (ap (λ l. q ∷ l) (with-over p v t r u a.1 n))

pub found_at : (p : List ℕ) (t : List Row) (r : Row) (u : List Row) → same p r.key ≡ true → is_some (find p (t ++ (r ∷ u))) ≡ true
unfolding is_some
found_at p [] r u n = ap is_some (find-yes p r u n)
found_at p (q ∷ t) r u n = go (same p q.key) refl (found_at p t r u n)
  where
    go : (x : Bool) → same p q.key ≡ x → is_some (find p (t ++ (r ∷ u))) ≡ true → is_some (find p (q ∷ (t ++ (r ∷ u)))) ≡ true
    go true a ih = ap is_some (find-yes p q (t ++ (r ∷ u)) a)
    go false a ih = ap is_some (find-no p q (t ++ (r ∷ u)) a) ∙ ih
