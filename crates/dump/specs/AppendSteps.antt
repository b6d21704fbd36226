-- The steps of the append: one pair's row, and the loop over a leaf's entries. Relies on what put_row promises (packed: RowPut) and on what the
-- tests of `live_count` promise.
use Rattle.std.specs.Prelude.{ℕ, ◌+◌, ◌*◌, ◌≤◌, ◌≡◌, refl, List, [], ◌∷◌, ◌++◌, Bool, true, false, ◌&&◌, length, leb}
use Rattle.image.specs.Prelude.{sym, ap, subst, ◌∙◌, append-nil, append_assoc, true≢false, arith, length-append, leb-true, leb-false}
use Rattle.image.specs.Path.{value_fits}
use Rattle.image.specs.Entry as defined
use Rattle.image.specs.Table.{Row, under_prefix}
use Rattle.octets.specs.Order.{and_left, and_right}
use Rattle.laws.specs.Shift.{under-append}
use Rattle.laws.specs.Filter.{keep, keep_append}
use Rattle.packed.specs.Form.Leaves.{value_length}
use Rattle.std.specs.Borrow.{Bor}
use Rattle.node.specs.Lent.{entry_is}
use Rattle.node.specs.declared.entries.Entry.{Entry}
use Rattle.packed.specs.Rows.Area.{rows_of, RowsFit}
use Rattle.packed.specs.Build.Rows.{RowPut}
use Rattle.live_count.specs.Live.{Shortens}
use Rattle.live_count.specs.declared.trail.Trail.{Trail}
use Rattle.live_count.specs.Walk.{passing}
use Rattle.live_count.specs.Steps.{passes-short}
use Rattle.dump.specs.Dump.{row_under, pairs_among, entry_value_fits, values_fit_among, Room, Added}

-- ROWS ADDED
pub added_none : (m : ℕ) (area : List ℕ) (t : List Row) → t ≡ [] → RowsFit m area → Added m area area m t
added_none m area t e f =
    record { fit = f; rows = sym (append-nil (rows_of m area 0)) ∙ ap (λ l. rows_of m area 0 ++ l) (sym e); count = rw e (omega arith); size = refl }

pub added-as : (m r : ℕ) (a b : List ℕ) (t u : List Row) → t ≡ u → Added m a b r t → Added m a b r u
added-as m r a b t u e x = subst (λ l. Added m a b r l) e x

pub added_more : (m n r : ℕ) (a b c : List ℕ) (t u w : List Row) → w ≡ t ++ u → Added m a b n t → Added n b c r u → Added m a c r w
added_more m n r a b c t u w e x y =
    record {
      fit = y.fit;
      rows = y.rows ∙ ap (λ l. l ++ u) x.rows ∙ append_assoc (rows_of m a 0) t u ∙ ap (λ l. rows_of m a 0 ++ l) (sym e);
      count =
          let p = x.count in
          let q = y.count in
          let l : length w ≡ length t + length u = ap length e ∙ length-append t u in
          omega arith;
      size = y.size ∙ x.size;
    }

-- room for a first part of the rows, and after it for the rest
pub room-first : (area : List ℕ) (m : ℕ) (t u w : List Row) → w ≡ t ++ u → Room area m w → Room area m t
room-first area m t u w e r =
    let l : length w ≡ length t + length u = ap length e ∙ length-append t u in
    let h = r.room in
    record { fit = r.fit; room = omega arith }

pub room-rest : (a b : List ℕ) (m n : ℕ) (t u w : List Row) → w ≡ t ++ u → Room a m w → Added m a b n t → Room b n u
room-rest a b m n t u w e r x =
    let l : length w ≡ length t + length u = ap length e ∙ length-append t u in
    let h = r.room in
    let c = x.count in
    let s = x.size in
    record { fit = x.fit; room = omega arith }

-- ONE PAIR
-- a path that passes is short
pub passing-short : (t : Trail) (q : List ℕ) → passing t q ≡ true → length q ≤ 64
unfolding Shortens
passing-short t q e = go (leb (length q) 64) refl
  where
    go : (x : Bool) → leb (length q) 64 ≡ x → length q ≤ 64
    go true f = leb-true (length q) 64 f
    go false f = absurd (true≢false (sym e ∙ passes-short t q (leb-false (length q) 64 f)))

-- a path that passes has room in a buffer
pub key-short : (p : List ℕ) (t : Trail) (k : List ℕ) (b : Bool) → b ≡ passing t (p ++ k) → b ≡ true → length p + length k ≤ 64
key-short p t k b e n =
    let a = passing-short t (p ++ k) (sym e ∙ n) in
    let c = length-append p k in
    omega arith

keep_one : (ok : List ℕ → Bool) (r : Row) → ok r.key ≡ true → keep ok (r ∷ []) ≡ r ∷ []
unfolding keep
keep_one ok r e = rw e

keep-not : (ok : List ℕ → Bool) (r : Row) → ok r.key ≡ false → keep ok (r ∷ []) ≡ []
unfolding keep
keep-not ok r e = rw e

module _ (p : List ℕ) (t : Trail) (k v : List ℕ) (area : List ℕ) (m : ℕ) (b : Bool) (e : b ≡ passing t (p ++ k))
    (room : Room area m (keep (passing t) (row_under p k v ∷ []))) where
  pub pair-hidden : b ≡ false → Added m area area m (keep (passing t) (row_under p k v ∷ []))
  pair-hidden n = added_none m area (keep (passing t) (row_under p k v ∷ [])) (keep-not (passing t) (row_under p k v) (sym e ∙ n)) room.fit

  module _ (n : b ≡ true) where
    kept : keep (passing t) (row_under p k v ∷ []) ≡ row_under p k v ∷ []
    kept = keep_one (passing t) (row_under p k v) (sym e ∙ n)

    pub pair-room : m * 128 + 128 ≤ length area
    pair-room = let r = room.room in let l : length (keep (passing t) (row_under p k v ∷ [])) ≡ 1 = ap length kept in omega arith

    pub pair-added : (area' : List ℕ) → length area' ≡ length area → RowPut m area area' (p ++ k) v → Added m area area' (m + 1) (keep (passing t) (row_under p k v ∷ []))
    pair-added area' l put =
        record {
          fit = put.fit;
          rows = put.rows ∙ ap (λ w. rows_of m area 0 ++ w) (sym kept);
          count = let c : length (keep (passing t) (row_under p k v ∷ [])) ≡ 1 = ap length kept in omega arith;
          size = l;
        }

pub value-short : (v : List ℕ) → value_fits v ≡ true → length v ≤ 60
value-short v e = let m = value_length v e in omega arith

-- a pair as it is read
module _ (p : List ℕ) (t : Trail) (e : Entry) (k v : Bor (List ℕ)) (q : e ≡ Entry.Pair k v) where
  pub pair-rows : keep (passing t) (under_prefix p (pairs_among (entry_is e ∷ []))) ≡ keep (passing t) (row_under p k.now v.now ∷ [])
  unfolding under_prefix pairs_among
  pair-rows = rw q

  pub pair-value : entry_value_fits (entry_is e) ≡ true → value_fits v.now ≡ true
  unfolding entry_value_fits
  pair-value h = rw q at h

-- THE LOOP
pairs-cons : (e : defined.Entry) (es : List defined.Entry) → pairs_among (e ∷ es) ≡ pairs_among (e ∷ []) ++ pairs_among es
unfolding pairs_among
pairs-cons (defined.pair k v) es = refl
pairs-cons (defined.child i k) es = refl
pairs-cons (defined.message m) es = refl

module _ (ok : List ℕ → Bool) (prefix : List ℕ) where
  pub rows-cons : (e : defined.Entry) (es ts : List defined.Entry) → es ≡ e ∷ ts
      → keep ok (under_prefix prefix (pairs_among es)) ≡ keep ok (under_prefix prefix (pairs_among (e ∷ []))) ++ keep ok (under_prefix prefix (pairs_among ts))
  rows-cons e es ts q =
      ap (λ l. keep ok (under_prefix prefix (pairs_among l))) q
      ∙ ap (λ l. keep ok (under_prefix prefix l)) (pairs-cons e ts)
      ∙ ap (keep ok) (sym (under-append prefix (pairs_among (e ∷ [])) (pairs_among ts)))
      ∙ keep_append ok (under_prefix prefix (pairs_among (e ∷ []))) (under_prefix prefix (pairs_among ts))

  pub rows_none : (es : List defined.Entry) → es ≡ [] → keep ok (under_prefix prefix (pairs_among es)) ≡ []
  unfolding keep under_prefix pairs_among
  rows_none es q = rw q

pub values-first : (e : defined.Entry) (es ts : List defined.Entry) → es ≡ e ∷ ts → values_fit_among es ≡ true → entry_value_fits e ≡ true
unfolding values_fit_among
values-first e es ts q h = let z : entry_value_fits e && values_fit_among ts ≡ true = rw q at h in and_left (entry_value_fits e) (values_fit_among ts) z

pub values-later : (e : defined.Entry) (es ts : List defined.Entry) → es ≡ e ∷ ts → values_fit_among es ≡ true → values_fit_among ts ≡ true
unfolding values_fit_among
values-later e es ts q h = let z : entry_value_fits e && values_fit_among ts ≡ true = rw q at h in and_right (entry_value_fits e) (values_fit_among ts) z

-- the rows so far, t of all, and those of the entries to come, make all
pub record Appending (first : ℕ) (area₀ area : List ℕ) (m : ℕ) (ok : List ℕ → Bool) (prefix : List ℕ) (es : List defined.Entry) (all : List Row) : Type 0 where
  pub done : List Row
  pub so_far : Added first area₀ area m done
  pub room : Room area m (keep ok (under_prefix prefix (pairs_among es)))
  pub whole : all ≡ done ++ keep ok (under_prefix prefix (pairs_among es))
  pub values : values_fit_among es ≡ true

pub append-first : (first : ℕ) (area : List ℕ) (ok : List ℕ → Bool) (prefix : List ℕ) (es : List defined.Entry) → values_fit_among es ≡ true
    → Room area first (keep ok (under_prefix prefix (pairs_among es))) → Appending first area area first ok prefix es (keep ok (under_prefix prefix (pairs_among es)))
append-first first area ok prefix es v r = record { done = []; so_far = added_none first area [] refl r.fit; room = r; whole = refl; values = v }

module _ (first : ℕ) (area₀ area : List ℕ) (m : ℕ) (ok : List ℕ → Bool) (prefix : List ℕ) (es : List defined.Entry) (all : List Row)
    (a : Appending first area₀ area m ok prefix es all) where
  pub append-end : es ≡ [] → Added first area₀ area m all
  append-end q =
      let e : all ≡ a.done = a.whole ∙ ap (λ l. a.done ++ l) (rows_none ok prefix es q) ∙ append-nil a.done in
      subst (λ t. Added first area₀ area m t) (sym e) a.so_far

  module _ (e : defined.Entry) (ts : List defined.Entry) (q : es ≡ e ∷ ts) where
    pub append-room : Room area m (keep ok (under_prefix prefix (pairs_among (e ∷ []))))
    append-room = room-first area m (keep ok (under_prefix prefix (pairs_among (e ∷ [])))) (keep ok (under_prefix prefix (pairs_among ts))) _ (rows-cons ok prefix e es ts q) a.room

    pub append-next : (area' : List ℕ) (r : ℕ) → Added m area area' r (keep ok (under_prefix prefix (pairs_among (e ∷ [])))) → Appending first area₀ area' r ok prefix ts all
    append-next area' r x =
        let one : List Row = keep ok (under_prefix prefix (pairs_among (e ∷ []))) in
        let rest : List Row = keep ok (under_prefix prefix (pairs_among ts)) in
        record {
          done = a.done ++ one;
          so_far = added_more first m r area₀ area area' a.done one (a.done ++ one) refl a.so_far x;
          room = room-rest area area' m r one rest (keep ok (under_prefix prefix (pairs_among es))) (rows-cons ok prefix e es ts q) a.room x;
          whole = a.whole ∙ ap (λ l. a.done ++ l) (rows-cons ok prefix e es ts q) ∙ sym (append_assoc a.done one rest);
          values = values-later e es ts q a.values;
        }
