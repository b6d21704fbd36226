-- Rows put into a table that rises: puts of different paths change places, so parts of the rows may go in one after the other, and the last
-- row of some that rise goes in at its place, with what stands before it for the others. Relies on the laws of tables (`laws`) and of ranks.
use Rattle.std.specs.Prelude.{ℕ, suc, ◌+◌, ◌<◌, ◌≤◌, ◌≡◌, refl, List, [], ◌∷◌, ◌++◌, Bool, true, false, cond, length}
use Rattle.image.specs.Prelude.{sym, ap, ◌∙◌, false≢true, Option, none, Option·none-ne-some, arith, length-append}
use Rattle.image.specs.Bytes.{same, before}
use Rattle.image.specs.Table.{Row, find, is_some, with_row, put_all, every_key, leads, rising}
use Rattle.octets.specs.Order.{and_left, and_right, same-eq, before-trans, before-not-same, before-total}
use Rattle.laws.specs.Tables.{find-nil, find-yes, find-no, find-with, find-with-other, find-append-none, find-put-other, with-length, put-length}
use Rattle.laws.specs.Rising.{both, rising-with, find-leads, table-ext}
use Rattle.laws.specs.Filter.{rises-all}
use Rattle.laws.specs.PushDown.{with_first}
use Rattle.dump.specs.Insertion.Insertion.{rank}
use Rattle.dump.specs.Insertion.Ranks.{with_at}

-- PARTS OF A TABLE THAT RISES
pub rising-front : (t u : List Row) → rising (t ++ u) ≡ true → rising t ≡ true
unfolding rising leads
rising-front [] u e = refl
rising-front (r ∷ []) u e = refl
rising-front (r ∷ q ∷ t) u e =
    both (and_left (before r.key q.key) _ e) (rising-front (q ∷ t) u (and_right (before r.key q.key) _ e))

pub rising-back : (t u : List Row) → rising (t ++ u) ≡ true → rising u ≡ true
unfolding rising
rising-back [] u e = e
rising-back (r ∷ t) u e = rising-back t u (and_right (leads r.key (t ++ u)) _ e)

all-before : (t : List Row) (r : Row) → rising (t ++ (r ∷ [])) ≡ true → every_key (λ q. before q r.key) t ≡ true
unfolding rising leads every_key
all-before [] r e = refl
all-before (q ∷ []) r e = both (and_left (before q.key r.key) _ e) refl
all-before (q ∷ s ∷ t) r e =
    let h = all-before (s ∷ t) r (and_right (before q.key s.key) _ e) in
    both (before-trans q.key s.key r.key (and_left (before q.key s.key) _ e) (and_left (before s.key r.key) _ h)) h

-- PUTS OF DIFFERENT PATHS CHANGE PLACES
with-swap : (p v q w : List ℕ) (t : List Row) → same p q ≡ false → rising t ≡ true → with_row p v (with_row q w t) ≡ with_row q w (with_row p v t)
with-swap p v q w t n e =
    table-ext (with_row p v (with_row q w t)) (with_row q w (with_row p v t)) (rising-with p v (with_row q w t) (rising-with q w t e))
    (rising-with q w (with_row p v t) (rising-with p v t e)) (λ x. go x (same x p) refl (same x q) refl)
  where
    go : (x : List ℕ) (y : Bool) → same x p ≡ y → (z : Bool) → same x q ≡ z → find x (with_row p v (with_row q w t)) ≡ find x (with_row q w (with_row p v t))
    go x true a z b =
        let s : x ≡ p = same-eq x p a in
        ap (λ k. find k (with_row p v (with_row q w t))) s ∙ find-with p v (with_row q w t)
        ∙ sym (ap (λ k. find k (with_row q w (with_row p v t))) s ∙ find-with-other p q w (with_row p v t) n ∙ find-with p v t)
    go x false a true b =
        let s : x ≡ q = same-eq x q b in
        find-with-other x p v (with_row q w t) a ∙ ap (λ k. find k (with_row q w t)) s ∙ find-with q w t
        ∙ sym (ap (λ k. find k (with_row q w (with_row p v t))) s ∙ find-with q w (with_row p v t))
    go x false a false b =
        find-with-other x p v (with_row q w t) a ∙ find-with-other x q w t b
        ∙ sym (find-with-other x q w (with_row p v t) b ∙ find-with-other x p v t a)

pub rising-put : (u t : List Row) → rising t ≡ true → rising (put_all u t) ≡ true
unfolding put_all
rising-put [] t e = e
rising-put (r ∷ u) t e = rising-with r.key r.value (put_all u t) (rising-put u t e)

lacks : (p : List ℕ) (r : Row) (u : List Row) → find p (r ∷ u) ≡ none → (same p r.key ≡ false) × (find p u ≡ none)
lacks p r u e = go (same p r.key) refl
  where
    go : (x : Bool) → same p r.key ≡ x → (same p r.key ≡ false) × (find p u ≡ none)
    go true a = absurd (Option·none-ne-some r.value (sym e ∙ find-yes p r u a))
    go false a = (a, sym (find-no p r u a) ∙ e)

-- a path that the rows do not have is put in after them or before them, or comes in among them
pub put-through : (p v : List ℕ) (u t : List Row) → find p u ≡ none → rising t ≡ true → with_row p v (put_all u t) ≡ put_all u (with_row p v t)
unfolding put_all
put-through p v [] t e h = refl
put-through p v (r ∷ u) t e h =
    let a = lacks p r u e in
    with-swap p v r.key r.value (put_all u t) a.0 (rising-put u t h) ∙ ap (with_row r.key r.value) (put-through p v u t a.1 h)

-- a path put in twice has the last value
with-again : (p v w : List ℕ) (t : List Row) → rising t ≡ true → with_row p v (with_row p w t) ≡ with_row p v t
with-again p v w t e =
    table-ext (with_row p v (with_row p w t)) (with_row p v t) (rising-with p v (with_row p w t) (rising-with p w t e)) (rising-with p v t e) (λ x. go x (same x p) refl)
  where
    go : (x : List ℕ) (y : Bool) → same x p ≡ y → find x (with_row p v (with_row p w t)) ≡ find x (with_row p v t)
    go x true a =
        let s : x ≡ p = same-eq x p a in
        ap (λ k. find k (with_row p v (with_row p w t))) s ∙ find-with p v (with_row p w t) ∙ sym (ap (λ k. find k (with_row p v t)) s ∙ find-with p v t)
    go x false a = find-with-other x p v (with_row p w t) a ∙ find-with-other x p w t a ∙ sym (find-with-other x p v t a)

-- any path is put in after the rows, or comes in among them
pub put-among : (p v : List ℕ) (u t : List Row) → rising t ≡ true → with_row p v (put_all u t) ≡ put_all (with_row p v u) t
unfolding put_all with_row
put-among p v [] t h = refl
put-among p v (r ∷ u) t h = go (before r.key p) refl (same p r.key) refl (put-among p v u t h)
  where
    go : (x : Bool) → before r.key p ≡ x → (y : Bool) → same p r.key ≡ y → with_row p v (put_all u t) ≡ put_all (with_row p v u) t
        → with_row p v (with_row r.key r.value (put_all u t)) ≡ put_all (with_row p v (r ∷ u)) t
    go true b y n ih =
        rw b (with-swap p v r.key r.value (put_all u t) (before-not-same r.key p b) (rising-put u t h) ∙ ap (with_row r.key r.value) ih)
    go false b true n ih =
        rw (b, n) (ap (λ k. with_row p v (with_row k r.value (put_all u t))) (sym (same-eq p r.key n)) ∙ with-again p v r.value (put_all u t) (rising-put u t h))
    go false b false n ih = rw (b, n)

-- ROWS IN TWO PARTS
put-append : (a b t : List Row) → put_all (a ++ b) t ≡ put_all a (put_all b t)
unfolding put_all
put-append [] b t = refl
put-append (r ∷ a) b t = ap (with_row r.key r.value) (put-append a b t)

pub put-parts : (a b t : List Row) → rising (a ++ b) ≡ true → rising t ≡ true → put_all b (put_all a t) ≡ put_all (a ++ b) t
unfolding put_all rising
put-parts [] b t e h = refl
put-parts (r ∷ a) b t e h =
    let f : rising (r ∷ a) ≡ true = rising-front (r ∷ a) b e in
    let n : find r.key a ≡ none = find-leads r.key a (and_right (leads r.key a) _ f) (and_left _ _ f) in
    let m : find r.key (a ++ b) ≡ none = find-leads r.key (a ++ b) (and_right (leads r.key (a ++ b)) _ e) (and_left _ _ e) in
    sym (put-through r.key r.value b (put_all a t) (sym (find-append-none r.key a b n) ∙ m) (rising-put a t h))
    ∙ ap (with_row r.key r.value) (put-parts a b t (and_right (leads r.key (a ++ b)) _ e) h)

-- rows that rise, put into the empty table
pub put-empty : (u : List Row) → rising u ≡ true → put_all u [] ≡ u
unfolding put_all rising with_row
put-empty [] e = refl
put-empty (r ∷ u) e =
    ap (with_row r.key r.value) (put-empty u (and_right (leads r.key u) _ e))
    ∙ with_first r.key r.value [] u (rises-all r.key u (and_left _ _ e) (and_right (leads r.key u) _ e))

-- a put that makes one row more is of a new path
with-new : (p v : List ℕ) (t : List Row) → rising t ≡ true → length t < length (with_row p v t) → find p t ≡ none
unfolding with_row rising leads
with-new p v [] e h = find-nil p
with-new p v (r ∷ t) e h = go (before r.key p) refl (same p r.key) refl (with-new p v t (and_right (leads r.key t) _ e))
  where
    go : (x : Bool) → before r.key p ≡ x → (y : Bool) → same p r.key ≡ y → (length t < length (with_row p v t) → find p t ≡ none) → find p (r ∷ t) ≡ none
    go true a y b ih =
        let l : suc (length t) < suc (length (with_row p v t)) = rw a at h in
        find-no p r t (before-not-same r.key p a) ∙ ih (omega arith)
    go false a true b ih = let l : suc (length t) < suc (length t) = rw (a, b) at h in absurd (omega arith)
    go false a false b ih = find-leads p (r ∷ t) e (before-total p r.key b a)

pub none-lacks : (o : Option (List ℕ)) → o ≡ none → is_some o ≡ false
unfolding is_some
none-lacks o e = rw e

-- rows whose number is as large as it can be have no path of the table
pub apart_none : (p : List ℕ) (u t : List Row) → rising t ≡ true → length (put_all u t) ≡ length u + length t → is_some (find p t) ≡ true → find p u ≡ none
unfolding put_all
apart_none p [] t e n f = find-nil p
apart_none p (r ∷ u) t e n f =
    let a = with-length r.key r.value (put_all u t) in
    let b = put-length u t in
    let c : find r.key (put_all u t) ≡ none = with-new r.key r.value (put_all u t) (rising-put u t e) (omega arith) in
    go (same p r.key) refl (apart_none p u t e (omega arith) f) c
  where
    go : (x : Bool) → same p r.key ≡ x → find p u ≡ none → find r.key (put_all u t) ≡ none → find p (r ∷ u) ≡ none
    go true s g c =
        let z : find p t ≡ none = sym (find-put-other p u t g) ∙ ap (λ k. find k (put_all u t)) (same-eq p r.key s) ∙ c in
        absurd (false≢true (sym (none-lacks (find p t) z) ∙ f))
    go false s g c = find-no p r u s ∙ g

-- a put makes the rows no fewer
pub with-more : (p v : List ℕ) (t : List Row) → length t ≤ length (with_row p v t)
unfolding with_row
with-more p v [] = omega arith
with-more p v (r ∷ t) = go (before r.key p) (same p r.key) (with-more p v t)
  where
    go : (x y : Bool) → length t ≤ length (with_row p v t)
        → suc (length t) ≤ length (cond x (r ∷ with_row p v t) (cond y (record { key = p; value = v } ∷ t) (record { key = p; value = v } ∷ r ∷ t)))
    go true y ih = omega arith
    go false true ih = omega arith
    go false false ih = omega arith

-- THE LAST OF ROWS THAT RISE: the table's rows before its place take the others
put-before : (us : List Row) (u : Row) (a b : List Row) → every_key (λ q. before q u.key) us ≡ true → rising (u ∷ b) ≡ true
    → put_all us (a ++ (u ∷ b)) ≡ put_all us a ++ (u ∷ b)
unfolding put_all every_key leads
put-before [] u a b e f = refl
put-before (r ∷ us) u a b e f =
    ap (with_row r.key r.value) (put-before us u a b (and_right (before r.key u.key) _ e) f)
    ∙ with_first r.key r.value (put_all us a) (u ∷ b) (rises-all r.key (u ∷ b) (and_left (before r.key u.key) _ e) f)

module _ (us : List Row) (u : Row) (a b : List Row) (rises : rising (us ++ (u ∷ [])) ≡ true) (table : rising (a ++ b) ≡ true)
    (place : rank u.key (a ++ b) ≡ length a) (apart : length (put_all (us ++ (u ∷ [])) (a ++ b)) ≡ length us + 1 + length (a ++ b)) where
  last-first : put_all (us ++ (u ∷ [])) (a ++ b) ≡ put_all us (with_row u.key u.value (a ++ b))
  unfolding put_all
  last-first = put-append us (u ∷ []) (a ++ b)

  at_place : with_row u.key u.value (a ++ b) ≡ a ++ (u ∷ b)
  at_place =
      let l : length (put_all (us ++ (u ∷ [])) (a ++ b)) ≡ length (put_all us (with_row u.key u.value (a ++ b))) = ap length last-first in
      let m = put-length us (with_row u.key u.value (a ++ b)) in
      with_at u.key u.value a b place (with-new u.key u.value (a ++ b) table (omega arith))

  pub put_last : put_all (us ++ (u ∷ [])) (a ++ b) ≡ put_all us a ++ (u ∷ b)
  put_last =
      last-first ∙ ap (put_all us) at_place
      ∙ put-before us u a b (all-before us u rises) (rising-back a (u ∷ b) (ap rising (sym at_place) ∙ rising-with u.key u.value (a ++ b) table))

  pub apart-last : length (put_all us a) ≡ length us + length a
  apart-last =
      let l : length (put_all (us ++ (u ∷ [])) (a ++ b)) ≡ length (put_all us a ++ (u ∷ b)) = ap length put_last in
      let m = length-append (put_all us a) (u ∷ b) in
      let n = length-append a b in
      omega arith
