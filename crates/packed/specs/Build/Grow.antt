-- One turn of a pass over the rows: the marks of the rows behind row i and before row j go, row i gets the mark of its new node.
-- The same law serves the leaves, whose rows may carry any marks before, and the levels above. Relies on specs/Rows/Remark.
use Rattle.std.specs.Prelude.{ℕ, zero, suc, ◌+◌, ◌-◌, ◌≤◌, ◌<◌, ◌≡◌, refl, ◌⊎◌, List, [], ◌∷◌, ◌++◌, Bool, true, false, ltb}
use Rattle.image.specs.Prelude.{ap, ap₂, ◌∙◌, inl, inr, arith, ltb-true, ltb-false}
use Rattle.packed.specs.Rows.Area.{rows_of, RowsFit}
use Rattle.packed.specs.Rows.Branches.{mark_at, low_of_row, branches_of, branches-take}
use Rattle.packed.specs.Rows.Puts.{put_mark, mark-same, mark-other}
use Rattle.packed.specs.Rows.Remark.{clear_marks, clear-before, clear-after, clear_in, clear_stays, Stays, stays-trans, stays_fit, put-stays, branches-agree, branches-none, branches-split, low_same}

-- the rows of two areas that differ in marks alone
pub rows_same : (m : ℕ) (a b : List ℕ) → Stays m a b → (k i : ℕ) → i + k ≤ m → rows_of k b i ≡ rows_of k a i
unfolding rows_of
rows_same m a b s zero i h = refl
rows_same m a b s (suc k) i h = ap₂ (λ r rs. r ∷ rs) (s.row i (omega arith)) (rows_same m a b s k (suc i) (omega arith))

module _ (m : ℕ) (area : List ℕ) (fit : RowsFit m area) (i j num : ℕ) (after_first : i < j) (at_most : j ≤ m) (pos : 1 ≤ num)
    (cleared after : List ℕ) (p : cleared ≡ clear_marks (j - (i + 1)) area (i + 1)) (q : after ≡ put_mark cleared i num) where
  cleared-stays : Stays m area cleared
  cleared-stays = rw p (clear_stays m (j - (i + 1)) area (i + 1) fit)

  pub grow-stays : Stays m area after
  grow-stays = rw q (stays-trans m area cleared (put_mark cleared i num) cleared-stays (put-stays m cleared i num (stays_fit m area cleared cleared-stays fit)))

  mark-i : mark_at after i ≡ num
  mark-i = rw q (mark-same cleared i num (let a = cleared-stays.size in let b = fit.room in omega arith))

  mark-in : (t : ℕ) → i + 1 ≤ t → t < j → mark_at after t ≡ 0
  mark-in t a b =
      let r = fit.room in
      rw q (mark-other cleared i num t (λ z. omega arith) ∙ rw p (clear_in (j - (i + 1)) area (i + 1) t (omega arith) a (omega arith)))

  mark-out : (t : ℕ) → (t < i) ⊎ (j ≤ t) → mark_at after t ≡ mark_at area t
  mark-out t (inl a) = rw q (mark-other cleared i num t (λ z. omega arith) ∙ rw p (clear-before (j - (i + 1)) area (i + 1) t (omega arith)))
  mark-out t (inr a) = rw q (mark-other cleared i num t (λ z. omega arith) ∙ rw p (clear-after (j - (i + 1)) area (i + 1) t (omega arith)))

  pub grow-next : mark_at after j ≡ mark_at area j
  grow-next = mark-out j (inr (omega arith))

  -- the first row is marked after the first turn
  pub grow_first : (0 < i → 1 ≤ mark_at area 0) → 1 ≤ mark_at after 0
  grow_first h = go (ltb 0 i) refl
    where
      go : (b : Bool) → ltb 0 i ≡ b → 1 ≤ mark_at after 0
      go true e = let z : 0 < i = ltb-true 0 i e in rw (mark-out 0 (inl z)) (h z)
      go false e =
          let z : i ≤ 0 = ltb-false 0 i e in
          let y : 0 ≡ i = omega arith in
          let x = ap (mark_at after) y ∙ mark-i in
          omega arith

  pub grow-later : branches_of (m - j) after j ≡ branches_of (m - j) area j
  grow-later = branches-agree (m - j) area after j (λ t a b. (mark-out t (inr a), grow-stays.row t (omega arith)))

  branches-before : branches_of i after 0 ≡ branches_of i area 0
  branches-before = branches-agree i area after 0 (λ t a b. (mark-out t (inl (omega arith)), grow-stays.row t (omega arith)))

  branches-here : branches_of (j - i) after i ≡ record { number = num; pivot = low_of_row area i } ∷ []
  branches-here =
      let z : j - i ≡ suc (j - (i + 1)) = omega arith in
      ap (λ k. branches_of k after i) z
      ∙ branches-take (j - (i + 1)) after i (rw mark-i pos)
      ∙ ap₂ (λ k l. k ∷ l)
      (ap₂ (λ x y. record { number = x; pivot = y }) mark-i (low_same area after i (grow-stays.row i (omega arith))))
      (branches-none (j - (i + 1)) after (suc i) (λ t a b. mark-in t (omega arith) (omega arith)))

  -- one node more
  pub grow-branches : branches_of j after 0 ≡ branches_of i area 0 ++ (record { number = num; pivot = low_of_row area i } ∷ [])
  grow-branches =
      let z : j ≡ i + (j - i) = omega arith in
      let y : 0 + i ≡ i = omega arith in
      ap (λ k. branches_of k after 0) z ∙ branches-split i (j - i) after 0 ∙ ap₂ (λ a b. a ++ b) branches-before (ap (λ x. branches_of (j - i) after x) y ∙ branches-here)
