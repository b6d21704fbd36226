-- One turn of the loop that makes the marks of the level above: the marks of a group go, its first row gets the new node's number.
use Rattle.std.specs.Prelude.{ℕ, zero, suc, ◌+◌, ◌*◌, ◌-◌, ◌≤◌, ◌<◌, ◌≡◌, refl, ◌≢◌, List, [], ◌∷◌, ◌++◌, Bool, true, false, length, get_or, eqb}
use Rattle.image.specs.Prelude.{sym, ap, ap₂, ◌∙◌, arith, eqb-true, eqb-false}
use Rattle.packed.specs.Rows.Area.{row_at, RowsFit}
use Rattle.packed.specs.Rows.Branches.{mark_at, low_of_row, branch_at, branches_of, branches-take, branches-pass, low-length}
use Rattle.packed.specs.Rows.Puts.{put_mark, put-length, put_byte, mark-same, mark-other, row_stays}

unfoldable pub clear_marks : ℕ → List ℕ → ℕ → List ℕ
clear_marks zero area i = area
clear_marks (suc k) area i = clear_marks k (put_mark area i 0) (i + 1)

-- only marks change
pub record Stays (m : ℕ) (area area' : List ℕ) : Type 0 where
  pub size : length area' ≡ length area
  pub path_length : (t : ℕ) → get_or area' (t * 128) 0 ≡ get_or area (t * 128) 0
  pub value_length : (t : ℕ) → get_or area' (t * 128 + 1) 0 ≡ get_or area (t * 128 + 1) 0
  pub row : (t : ℕ) → t < m → row_at area' t ≡ row_at area t

pub stays-refl : (m : ℕ) (area : List ℕ) → Stays m area area
stays-refl m area = record { size = refl; path_length = λ t. refl; value_length = λ t. refl; row = λ t h. refl }

pub stays-sym : (m : ℕ) (a b : List ℕ) → Stays m a b → Stays m b a
stays-sym m a b x = record { size = sym x.size; path_length = λ t. sym (x.path_length t); value_length = λ t. sym (x.value_length t); row = λ t h. sym (x.row t h) }

pub stays-trans : (m : ℕ) (a b c : List ℕ) → Stays m a b → Stays m b c → Stays m a c
stays-trans m a b c x y =
    record {
      size = y.size ∙ x.size;
      path_length = λ t. y.path_length t ∙ x.path_length t;
      value_length = λ t. y.value_length t ∙ x.value_length t;
      row = λ t h. y.row t h ∙ x.row t h;
    }

pub stays_fit : (m : ℕ) (a b : List ℕ) → Stays m a b → RowsFit m a → RowsFit m b
stays_fit m a b s f =
    record {
      room = rw s.size f.room;
      paths = λ t h. rw (s.path_length t) (f.paths t h);
      values = λ t h. rw (s.value_length t) (f.values t h);
    }

pub put-stays : (m : ℕ) (area : List ℕ) (i v : ℕ) → RowsFit m area → Stays m area (put_mark area i v)
put-stays m area i v f =
    record {
      size = put-length area i v;
      path_length = λ t. put_byte area i v (t * 128) (λ q. omega arith) (λ q. omega arith);
      value_length = λ t. put_byte area i v (t * 128 + 1) (λ q. omega arith) (λ q. omega arith);
      row = λ t h. row_stays area i v t (f.paths t h) (f.values t h);
    }

pub clear_stays : (m k : ℕ) (area : List ℕ) (i : ℕ) → RowsFit m area → Stays m area (clear_marks k area i)
unfolding clear_marks
clear_stays m zero area i f = stays-refl m area
clear_stays m (suc k) area i f =
    let p = put-stays m area i 0 f in
    stays-trans m area (put_mark area i 0) (clear_marks k (put_mark area i 0) (i + 1)) p
    (clear_stays m k (put_mark area i 0) (i + 1) (stays_fit m area (put_mark area i 0) p f))

-- the marks after it
pub clear-before : (k : ℕ) (area : List ℕ) (i t : ℕ) → t < i → mark_at (clear_marks k area i) t ≡ mark_at area t
unfolding clear_marks
clear-before zero area i t h = refl
clear-before (suc k) area i t h = clear-before k (put_mark area i 0) (i + 1) t (omega arith) ∙ mark-other area i 0 t (λ q. omega arith)

pub clear-after : (k : ℕ) (area : List ℕ) (i t : ℕ) → i + k ≤ t → mark_at (clear_marks k area i) t ≡ mark_at area t
unfolding clear_marks
clear-after zero area i t h = refl
clear-after (suc k) area i t h = clear-after k (put_mark area i 0) (i + 1) t (omega arith) ∙ mark-other area i 0 t (λ q. omega arith)

pub clear_in : (k : ℕ) (area : List ℕ) (i t : ℕ) → (i + k) * 128 ≤ length area → i ≤ t → t < i + k → mark_at (clear_marks k area i) t ≡ 0
unfolding clear_marks
clear_in zero area i t r a b = absurd (omega arith)
clear_in (suc k) area i t r a b = go (eqb t i) refl (clear_in k (put_mark area i 0) (i + 1) t (rw (put-length area i 0) (omega arith)))
  where
    go : (x : Bool) → eqb t i ≡ x → (i + 1 ≤ t → t < i + 1 + k → mark_at (clear_marks k (put_mark area i 0) (i + 1)) t ≡ 0)
        → mark_at (clear_marks k (put_mark area i 0) (i + 1)) t ≡ 0
    go true e ih =
        let z : t ≡ i = eqb-true t i e in
        clear-before k (put_mark area i 0) (i + 1) t (omega arith) ∙ ap (mark_at (put_mark area i 0)) z ∙ mark-same area i 0 (omega arith)
    go false e ih = let n : t ≢ i = eqb-false t i e in ih (omega arith) (omega arith)

-- marked rows of two areas that agree
pub low_same : (a b : List ℕ) (t : ℕ) → row_at b t ≡ row_at a t → low_of_row b t ≡ low_of_row a t
unfolding low_of_row
low_same a b zero e = refl
low_same a b (suc t) e = ap (λ r. r.key) e

pub branches-agree : (k : ℕ) (a b : List ℕ) (i : ℕ) → ((t : ℕ) → i ≤ t → t < i + k → (mark_at b t ≡ mark_at a t) × (row_at b t ≡ row_at a t)) → branches_of k b i ≡ branches_of k a i
unfolding branches_of
branches-agree zero a b i h = refl
branches-agree (suc k) a b i h =
    let x = h i (omega arith) (omega arith) in
    rw (x.0, low_same a b i x.1, branches-agree k a b (suc i) (λ t p q. h t (omega arith) (omega arith)))

pub branches-none : (k : ℕ) (a : List ℕ) (i : ℕ) → ((t : ℕ) → i ≤ t → t < i + k → mark_at a t ≡ 0) → branches_of k a i ≡ []
branches-none zero a i h = unfold branches_of in refl
branches-none (suc k) a i h = branches-pass k a i (h i (omega arith) (omega arith)) ∙ branches-none k a (suc i) (λ t p q. h t (omega arith) (omega arith))

pub branches-split : (k n : ℕ) (a : List ℕ) (i : ℕ) → branches_of (k + n) a i ≡ branches_of k a i ++ branches_of n a (i + k)
branches-split zero n a i =
    let x : 0 + n ≡ n = omega arith in
    let y : i ≡ i + 0 = omega arith in
    ap₂ (λ p q. branches_of p a q) x y ∙ (unfold branches_of in refl)
branches-split (suc k) n a i =
    let x : suc k + n ≡ suc (k + n) = omega arith in
    let y : suc i + k ≡ i + suc k = omega arith in
    ap (λ p. branches_of p a i) x ∙ by (mark_at a i) refl (branches-split k n a (suc i) ∙ ap (λ q. branches_of k a (suc i) ++ branches_of n a q) y)
  where
    by : (v : ℕ) → mark_at a i ≡ v → branches_of (k + n) a (suc i) ≡ branches_of k a (suc i) ++ branches_of n a (i + suc k)
        → branches_of (suc (k + n)) a i ≡ branches_of (suc k) a i ++ branches_of n a (i + suc k)
    by zero e ih = branches-pass (k + n) a i e ∙ ih ∙ ap (λ l. l ++ branches_of n a (i + suc k)) (sym (branches-pass k a i e))
    by (suc v) e ih =
        branches-take (k + n) a i (omega arith) ∙ ap (λ l. branch_at a i ∷ l) ih ∙ ap (λ l. l ++ branches_of n a (i + suc k)) (sym (branches-take k a i (omega arith)))

-- the loop that clears
pub clear_step : (area : List ℕ) (i to : ℕ) → i < to → clear_marks (to - i) area i ≡ clear_marks (to - (i + 1)) (put_mark area i 0) (i + 1)
unfolding clear_marks
clear_step area i to h = let z : to - i ≡ suc (to - (i + 1)) = omega arith in rw z refl

pub clear-done : (area : List ℕ) (i to : ℕ) → to ≤ i → clear_marks (to - i) area i ≡ area
unfolding clear_marks
clear-done area i to h = let z : to - i ≡ 0 = omega arith in rw z refl

-- what a node has in use that starts at row i
unfoldable pub start_weight : List ℕ → ℕ → ℕ
start_weight area i = 6 + length (low_of_row area i)

pub start_first : (area : List ℕ) (i : ℕ) → i ≡ 0 → start_weight area i ≡ 6
unfolding start_weight low_of_row
start_first area zero e = refl
start_first area (suc i) e = absurd (omega arith)

pub start-later : (m : ℕ) (area : List ℕ) → RowsFit m area → (i : ℕ) → i < m → (i ≡ 0 → ⊥) → start_weight area i ≡ 6 + get_or area (i * 128) 0
unfolding start_weight
start-later m area f i h n = ap (λ x. 6 + x) (low-length m area f i n h)
