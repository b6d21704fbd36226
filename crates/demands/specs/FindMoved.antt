-- What is found in a table after a move: below `to` what was below `from`, nothing more below `from`, and elsewhere what was there before.
-- For the theorems about single paths. Relies on the laws of the other changes of a table (crate laws).
use Rattle.std.specs.Prelude.{ℕ, ◌≡◌, refl, List, [], ◌∷◌, ◌++◌, Bool, true, false, length, drop}
use Rattle.image.specs.Prelude.{sym, ap, ◌∙◌, none}
use Rattle.image.specs.Bytes.{same, begins}
use Rattle.image.specs.Path.{below}
use Rattle.image.specs.Table.{Row, find, rows_below, without_below, with_row, renamed, put_all, moved}
use Rattle.octets.specs.Order.{not_so, same-eq, same_false, same-append, begins-split}
use Rattle.laws.specs.Tables.{find-nil, find-yes, find-no, find-with, find-with-other, find-cleared, find-spared, find-put-other}
use Rattle.octets.specs.Beginnings.{begins-append as begins-front}

-- rows put into a table that lacks the path decide
put-all-decides : (q : List ℕ) (rs t : List Row) → find q t ≡ none → find q (put_all rs t) ≡ find q rs
unfolding put_all
put-all-decides q [] t h = h ∙ sym (find-nil q)
put-all-decides q (r ∷ rs) t h = by_key (same q r.key) refl (put-all-decides q rs t h)
  where
    by_key : (x : Bool) → same q r.key ≡ x → find q (put_all rs t) ≡ find q rs
        → find q (with_row r.key r.value (put_all rs t)) ≡ find q (r ∷ rs)
    by_key true e ih =
        ap (λ k. find k (with_row r.key r.value (put_all rs t))) (same-eq q r.key e)
        ∙ find-with r.key r.value (put_all rs t) ∙ sym (find-yes q r rs e)
    by_key false e ih = find-with-other q r.key r.value (put_all rs t) e ∙ ih ∙ sym (find-no q r rs e)

-- the rows set aside, with to in place of from
renamed-found : (from to rest : List ℕ) (t : List Row) → find (to ++ rest) (renamed from to (rows_below from t)) ≡ find (from ++ rest) t
unfolding renamed rows_below below
renamed-found from to rest [] = find-nil (to ++ rest) ∙ sym (find-nil (from ++ rest))
renamed-found from to rest (r ∷ t) = by_place (begins from r.key) refl (renamed-found from to rest t)
  where
    end : List ℕ
    end = drop (length from) r.key

    after : Row
    after = record { key = to ++ end; value = r.value }

    set-aside : begins from r.key ≡ true → (x : Bool) → same rest end ≡ x → find (to ++ rest) (renamed from to (rows_below from t)) ≡ find (from ++ rest) t
        → find (to ++ rest) (after ∷ renamed from to (rows_below from t)) ≡ find (from ++ rest) (r ∷ t)
    set-aside b x e ih =
        let old : same (from ++ rest) r.key ≡ x = ap (same (from ++ rest)) (sym (begins-split from r.key b)) ∙ same-append from rest end ∙ e in
        by-rest x (same-append to rest end ∙ e) old
      where
        by-rest : (x : Bool) → same (to ++ rest) (to ++ end) ≡ x → same (from ++ rest) r.key ≡ x
            → find (to ++ rest) (after ∷ renamed from to (rows_below from t)) ≡ find (from ++ rest) (r ∷ t)
        by-rest true new old = find-yes (to ++ rest) after _ new ∙ sym (find-yes (from ++ rest) r t old)
        by-rest false new old = find-no (to ++ rest) after _ new ∙ ih ∙ sym (find-no (from ++ rest) r t old)

    by_place : (x : Bool) → begins from r.key ≡ x → find (to ++ rest) (renamed from to (rows_below from t)) ≡ find (from ++ rest) t
        → find (to ++ rest) (renamed from to (rows_below from (r ∷ t))) ≡ find (from ++ rest) (r ∷ t)
    by_place true b ih = rw b (set-aside b (same rest end) refl ih)
    by_place false b ih =
        rw b (ih ∙ sym (find-no (from ++ rest) r t (same_false (from ++ rest) r.key (λ z. not_so (rw (← z) (begins-front from rest)) b))))

renamed-lacks : (from to q : List ℕ) (t : List Row) → begins to q ≡ false → find q (renamed from to t) ≡ none
unfolding renamed
renamed-lacks from to q [] h = find-nil q
renamed-lacks from to q (r ∷ t) h =
    find-no q _ (renamed from to t) (same_false q (to ++ drop (length from) r.key) (λ z. not_so (rw z (begins-front to (drop (length from) r.key))) h))
    ∙ renamed-lacks from to q t h

-- below to, what was below from
pub find-moved-to : (from to rest : List ℕ) (t : List Row) → find (to ++ rest) (moved from to t) ≡ find (from ++ rest) t
unfolding moved
find-moved-to from to rest t =
    put-all-decides (to ++ rest) (renamed from to (rows_below from t)) (without_below to (without_below from t))
    (find-cleared (to ++ rest) to (without_below from t) (begins-front to rest))
    ∙ renamed-found from to rest t

-- below from, where that is not below to, nothing
pub find-moved-from : (from to q : List ℕ) (t : List Row) → begins to q ≡ false → begins from q ≡ true → find q (moved from to t) ≡ none
unfolding moved
find-moved-from from to q t h g =
    find-put-other q (renamed from to (rows_below from t)) (without_below to (without_below from t)) (renamed-lacks from to q (rows_below from t) h)
    ∙ find-spared q to (without_below from t) h ∙ find-cleared q from t g

-- elsewhere, what was there
pub find-moved-other : (from to q : List ℕ) (t : List Row) → begins to q ≡ false → begins from q ≡ false → find q (moved from to t) ≡ find q t
unfolding moved
find-moved-other from to q t h g =
    find-put-other q (renamed from to (rows_below from t)) (without_below to (without_below from t)) (renamed-lacks from to q (rows_below from t) h)
    ∙ find-spared q to (without_below from t) h ∙ find-spared q from t g
