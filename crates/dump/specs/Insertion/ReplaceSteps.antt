-- Steps of the replacement of a row's value, and of the setting of a row: in the first part of the rows, in the second, or new in the second.
-- Relies on the laws of slots, ranks and puts into tables, and on what the writer of one row promises (`packed`).
use Rattle.std.specs.Prelude.{ℕ, ◌+◌, ◌*◌, ◌-◌, ◌≤◌, ◌<◌, ◌≡◌, refl, List, [], ◌∷◌, ◌++◌, Bool, true, false, not, length, drop, leb}
use Rattle.image.specs.Prelude.{sym, ap, ap₂, subst, ◌∙◌, append_assoc, true≢false, Option, none, some, arith, drop-drop, leb-true, leb-false, not-true, not-false}
use Rattle.image.specs.Bytes.{same}
use Rattle.image.specs.Table.{Row, find, is_some, with_row, put_all, rising}
use Rattle.octets.specs.Order.{same_refl, same-eq, same_turn}
use Rattle.laws.specs.Tables.{find-put-other, put-length}
use Rattle.laws.specs.Rising.{rising-with}
use Rattle.packed.specs.Rows.Area.{row_at, rows_of, RowsFit, rows_step, fit-fewer}
use Rattle.packed.specs.Rows.Steps.{rows-length}
use Rattle.packed.specs.Build.Rows.{RowPut}
use Rattle.live_count.specs.KeepLaws.{with-length}
use Rattle.dump.specs.Insertion.Insertion.{rank, Inserted, Replaced, Apart, Laid, laid}
use Rattle.dump.specs.Insertion.Ranks.{absent-end, absent-at, with-over, found_at}
use Rattle.dump.specs.Insertion.Merge.{none-lacks, put-through, put-among, apart_none, with-more}
use Rattle.dump.specs.Insertion.Slots.{Bounded, bounded-alike, bounded-in, fit-each, rows-between, rows-parts, rows-slots, slot-behind}

-- two areas with the same bytes from row m on
module _ (area area' : List ℕ) (m all : ℕ) (behind : drop (m * 128) area' ≡ drop (m * 128) area) (order : m ≤ all) (fit : RowsFit all area) where
  pub rows_behind : rows_of (all - m) area' m ≡ rows_of (all - m) area m
  rows_behind = rows-slots (all - m) area' area m m (λ q h. slot-behind area' area m behind (m + q) (omega arith)) (fit-fewer all (m + (all - m)) area (omega arith) fit)

  pub fit-behind : RowsFit m area' → length area' ≡ length area → RowsFit all area'
  fit-behind f size = let r = fit.room in fit-each all area' (omega arith) (λ t h. go t h (leb m t) refl)
    where
      go : (t : ℕ) → t < all → (x : Bool) → leb m t ≡ x → Bounded area' t
      go t h true a = let l : m ≤ t = leb-true m t a in bounded-alike area' area t t (slot-behind area' area m behind t l) (bounded-in all area fit t h)
      go t h false a = let l : t < m = leb-false m t a in bounded-in m area' f t l

-- ONE ROW
module _ (area : List ℕ) (from m : ℕ) (fit : RowsFit m area) (low : from ≤ m) (rises : rising (rows_of (m - from) area from) ≡ true)
    (path value : List ℕ) (i : ℕ) (place : i ≡ from + rank path (rows_of (m - from) area from)) where
  absent : find path (rows_of (m - from) area from) ≡ none → Replaced from m area area path value false
  absent n = record { found = sym (none-lacks (find path (rows_of (m - from) area from)) n); fit = fit; front = refl; rows = refl; behind = refl }

  pub replace-end : m ≤ i → i ≤ m → Replaced from m area area path value false
  replace-end h k = let n = rows-length (m - from) area from in absent (absent-end path (rows_of (m - from) area from) (omega arith))

  module _ (h : i < m) (b : Bool) (e : b ≡ same (row_at area i).key path) where
    rows-around : rows_of (m - from) area from ≡ rows_of (i - from) area from ++ (row_at area i ∷ rows_of (m - (i + 1)) area (i + 1))
    rows-around =
        rows-between area from i m (omega arith) (omega arith) ∙ ap (λ l. rows_of (i - from) area from ++ l) (rows_step m area i h)

    ranked : rank path (rows_of (i - from) area from ++ (row_at area i ∷ rows_of (m - (i + 1)) area (i + 1))) ≡ length (rows_of (i - from) area from)
    ranked =
        let n = rows-length (i - from) area from in
        let r : rank path (rows_of (m - from) area from) ≡ rank path (rows_of (i - from) area from ++ (row_at area i ∷ rows_of (m - (i + 1)) area (i + 1))) = ap (rank path) rows-around in
        omega arith

    pub replace-other : not b ≡ true → Replaced from m area area path value false
    replace-other n =
        absent (ap (find path) rows-around
        ∙ absent-at path (rows_of (i - from) area from) (row_at area i) (rows_of (m - (i + 1)) area (i + 1)) (ap rising (sym rows-around) ∙ rises) ranked
        (same_turn (row_at area i).key path (sym e ∙ not-true b n)))

    module _ (n : not b ≡ false) (area' : List ℕ) (size : length area' ≡ length area) (wrote : RowPut i area area' path value) where
      holds : same path (row_at area i).key ≡ true
      holds = ap (λ k. same path k) (same-eq (row_at area i).key path (sym e ∙ not-false b n)) ∙ same_refl path

      behind-row : drop ((i + 1) * 128) area' ≡ drop ((i + 1) * 128) area
      behind-row = let z : (i + 1) * 128 ≡ i * 128 + 128 = omega arith in ap (λ q. drop q area') z ∙ wrote.behind ∙ ap (λ q. drop q area) (sym z)

      behind-all : drop (m * 128) area' ≡ drop (m * 128) area
      behind-all =
          let z : m * 128 ≡ (i + 1) * 128 + (m - (i + 1)) * 128 = omega arith in
          ap (λ q. drop q area') z ∙ sym (drop-drop ((m - (i + 1)) * 128) ((i + 1) * 128) area')
          ∙ ap (λ l. drop ((m - (i + 1)) * 128) l) behind-row
          ∙ drop-drop ((m - (i + 1)) * 128) ((i + 1) * 128) area ∙ ap (λ q. drop q area) (sym z)

      written : rows_of (i + 1) area' 0 ≡ rows_of from area 0 ++ (rows_of (i - from) area from ++ (record { key = path; value = value } ∷ []))
      written =
          let z : i ≡ i - 0 = omega arith in
          let y : from - 0 ≡ from = omega arith in
          wrote.rows
          ∙ ap (λ l. l ++ (record { key = path; value = value } ∷ []))
          (ap (λ k. rows_of k area 0) z ∙ rows-between area 0 from i (omega arith) (omega arith) ∙ ap (λ k. rows_of k area 0 ++ rows_of (i - from) area from) y)
          ∙ append_assoc (rows_of from area 0) (rows_of (i - from) area from) (record { key = path; value = value } ∷ [])

      pub replace-here : Replaced from m area area' path value true
      replace-here =
          let p = rows-parts from (i + 1) area area' (rows_of (i - from) area from ++ (record { key = path; value = value } ∷ [])) (omega arith) written in
          record {
            found = sym (ap (λ l. is_some (find path l)) rows-around ∙ found_at path (rows_of (i - from) area from) (row_at area i) (rows_of (m - (i + 1)) area (i + 1)) holds);
            fit = fit-behind area area' (i + 1) m behind-row (omega arith) fit wrote.fit size;
            front = p.0;
            rows = rows-between area' from (i + 1) m (omega arith) (omega arith)
                ∙ ap₂ (λ a b. a ++ b) p.1 (rows_behind area area' (i + 1) m behind-row (omega arith) fit)
                ∙ append_assoc (rows_of (i - from) area from) (record { key = path; value = value } ∷ []) (rows_of (m - (i + 1)) area (i + 1))
                ∙ sym (ap (with_row path value) rows-around
                ∙ with-over path value (rows_of (i - from) area from) (row_at area i) (rows_of (m - (i + 1)) area (i + 1)) ranked holds);
            behind = behind-all;
          }

-- ROWS IN TWO PARTS
none_found : (o : Option (List ℕ)) → false ≡ is_some o → o ≡ none
unfolding is_some
none_found none e = refl
none_found (some v) e = absurd (true≢false (sym e))

-- a part that starts with the area
from_zero : (m : ℕ) (a b : List ℕ) → rows_of m a 0 ≡ rows_of m b 0 → rows_of (m - 0) a 0 ≡ rows_of (m - 0) b 0
from_zero m a b e = let z : m - 0 ≡ m = omega arith in ap (λ k. rows_of k a 0) z ∙ e ∙ ap (λ k. rows_of k b 0) (sym z)

module _ (area : List ℕ) (m all : ℕ) (apart : Apart area 0 m all) (path value : List ℕ) where
  abbrev T : List Row
  T = rows_of (m - 0) area 0

  abbrev G : List Row
  G = rows_of (all - m) area m

  abbrev next : List Row
  next = with_row path value (laid area m all)

  counted : length (laid area m all) ≡ all
  counted = let n = apart.apart in omega arith

  -- as many rows as the table has, in two parts that make it
  module _ (area₀ area' : List ℕ) (r : ℕ) (size : length area' ≡ length area₀) where
    made : RowsFit r area' → m ≤ r → rising (rows_of (m - 0) area' 0) ≡ true → rising (rows_of (r - m) area' m) ≡ true → laid area' m r ≡ next → r ≤ length next
        → Laid m area₀ area' r next
    made f h a b e k =
        let l : length (laid area' m r) ≡ length next = ap length e in
        let n = put-length (rows_of (r - m) area' m) (rows_of (m - 0) area' 0) in
        let x = rows-length (r - m) area' m in
        let y = rows-length (m - 0) area' 0 in
        record { apart = record { fit = f; low = omega arith; high = h; rises = a; later = b; apart = omega arith }; table = e; size = size }

  -- an area in which both parts are as before, and rows laid from there on
  module _ (area' : List ℕ) (fit : RowsFit all area') (size : length area' ≡ length area) (first : rows_of (m - 0) area' 0 ≡ T) (second : rows_of (all - m) area' m ≡ G) where
    same_table : laid area' m all ≡ laid area m all
    same_table = ap₂ put_all second first

    as_before : Apart area' 0 m all
    as_before =
        record {
          fit = fit;
          low = apart.low;
          high = apart.high;
          rises = ap rising first ∙ apart.rises;
          later = ap rising second ∙ apart.later;
          apart = ap length same_table ∙ apart.apart;
        }

    laid_on : (area'' : List ℕ) (r : ℕ) → Laid m area' area'' r (with_row path value (laid area' m all)) → Laid m area area'' r next
    laid_on area'' r y = record { apart = y.apart; table = y.table ∙ ap (with_row path value) same_table; size = y.size ∙ size }

  -- the path is in the second part
  in-second : (area' : List ℕ) → length area' ≡ length area → Replaced m all area area' path value true → Laid m area area' all next
  in-second area' size x =
      let c = counted in
      let w = with-more path value (laid area m all) in
      let t : rows_of (m - 0) area' 0 ≡ T = from_zero m area' area x.front in
      made area area' all size x.fit apart.high (ap rising t ∙ apart.rises) (ap rising x.rows ∙ rising-with path value G apart.later)
      (ap₂ put_all x.rows t ∙ sym (put-among path value G T apart.rises)) (omega arith)

  -- it is in neither
  module _ (first : find path T ≡ none) (second : find path G ≡ none) where
    grown : length next ≡ all + 1
    grown =
        let c = counted in
        let w = with-length path value (laid area m all) (find-put-other path G T second ∙ first) in
        omega arith

    in-neither : (area' : List ℕ) → length area' ≡ length area → Inserted m all area area' path value → Laid m area area' (all + 1) next
    in-neither area' size x =
        let o = apart.high in
        let p = rows-parts m (all + 1) area area' (with_row path value G) (omega arith) x.rows in
        let t : rows_of (m - 0) area' 0 ≡ T = from_zero m area' area p.0 in
        let g = grown in
        made area area' (all + 1) size x.fit (omega arith) (ap rising t ∙ apart.rises) (ap rising p.1 ∙ rising-with path value G apart.later)
        (ap₂ put_all p.1 t ∙ sym (put-among path value G T apart.rises)) (omega arith)

-- THE CODE'S STEPS: the first part is tried, then the second, then the row comes in new
module _ (area : List ℕ) (m all : ℕ) (apart : Apart area 0 m all) (path value : List ℕ)
    (area₁ : List ℕ) (size₁ : length area₁ ≡ length area) (a : Bool) (x : Replaced 0 m area area₁ path value a) where
  pub set_first : a ≡ true → Laid m area area₁ all (with_row path value (laid area m all))
  set_first e =
      let y : Replaced 0 m area area₁ path value true = subst (λ b. Replaced 0 m area area₁ path value b) e x in
      let n = rows-length (all - m) area m in
      let k = rows-length (m - 0) area 0 in
      let l = apart.apart in
      let o = apart.high in
      let w = with-more path value (laid area m all) in
      let g : rows_of (all - m) area₁ m ≡ rows_of (all - m) area m = rows_behind area area₁ m all y.behind apart.high apart.fit in
      let f : find path (rows_of (all - m) area m) ≡ none = apart_none path (rows_of (all - m) area m) (rows_of (m - 0) area 0) apart.rises (omega arith) (sym y.found) in
      made area m all apart path value area area₁ all size₁ (fit-behind area area₁ m all y.behind apart.high apart.fit y.fit size₁) apart.high
      (ap rising y.rows ∙ rising-with path value (rows_of (m - 0) area 0) apart.rises) (ap rising g ∙ apart.later)
      (ap₂ put_all g y.rows ∙ sym (put-through path value (rows_of (all - m) area m) (rows_of (m - 0) area 0) f apart.rises)) (omega arith)

  module _ (e : a ≡ false) where
    not_first : Replaced 0 m area area₁ path value false
    not_first = subst (λ b. Replaced 0 m area area₁ path value b) e x

    rows-second : rows_of (all - m) area₁ m ≡ rows_of (all - m) area m
    rows-second = rows_behind area area₁ m all not_first.behind apart.high apart.fit

    fit-first : RowsFit all area₁
    fit-first = fit-behind area area₁ m all not_first.behind apart.high apart.fit not_first.fit size₁

    pub first-apart : Apart area₁ 0 m all
    first-apart = as_before area m all apart path value area₁ fit-first size₁ not_first.rows rows-second

    first_absent : find path (rows_of (m - 0) area₁ 0) ≡ none
    first_absent = ap (find path) not_first.rows ∙ none_found (find path (rows_of (m - 0) area 0)) not_first.found

    first_on : (area' : List ℕ) (r : ℕ) → Laid m area₁ area' r (with_row path value (laid area₁ m all)) → Laid m area area' r (with_row path value (laid area m all))
    first_on = laid_on area m all apart path value area₁ fit-first size₁ not_first.rows rows-second

    module _ (area₂ : List ℕ) (size₂ : length area₂ ≡ length area₁) (b : Bool) (y : Replaced m all area₁ area₂ path value b) where
      pub set-second : b ≡ true → Laid m area area₂ all (with_row path value (laid area m all))
      set-second f =
          first_on area₂ all (in-second area₁ m all first-apart path value area₂ size₂ (subst (λ c. Replaced m all area₁ area₂ path value c) f y))

      module _ (f : b ≡ false) where
        not-second : Replaced m all area₁ area₂ path value false
        not-second = subst (λ c. Replaced m all area₁ area₂ path value c) f y

        rows-first : rows_of (m - 0) area₂ 0 ≡ rows_of (m - 0) area₁ 0
        rows-first = from_zero m area₂ area₁ not-second.front

        pub second-apart : Apart area₂ 0 m all
        second-apart = as_before area₁ m all first-apart path value area₂ not-second.fit size₂ rows-first not-second.rows

        pub second-absent : find path (rows_of (all - m) area₂ m) ≡ none
        second-absent = ap (find path) not-second.rows ∙ none_found (find path (rows_of (all - m) area₁ m)) not-second.found

        still-absent : find path (rows_of (m - 0) area₂ 0) ≡ none
        still-absent = ap (find path) rows-first ∙ first_absent

        pub new-room : 128 * length (with_row path value (laid area m all)) ≤ length area → all * 128 + 128 ≤ length area₂
        new-room h =
            let g = grown area₂ m all second-apart path value still-absent second-absent in
            let c : length (with_row path value (laid area₂ m all)) ≡ length (with_row path value (laid area m all))
            = ap (λ l. length (with_row path value l)) (ap₂ put_all (not-second.rows ∙ rows-second) (rows-first ∙ not_first.rows)) in
            omega arith

        pub set_new : (area₃ : List ℕ) → length area₃ ≡ length area₂ → Inserted m all area₂ area₃ path value
            → Laid m area area₃ (all + 1) (with_row path value (laid area m all))
        set_new area₃ size₃ z =
            first_on area₃ (all + 1) (laid_on area₁ m all first-apart path value area₂ not-second.fit size₂ rows-first not-second.rows area₃ (all + 1)
            (in-neither area₂ m all second-apart path value still-absent second-absent area₃ size₃ z))
