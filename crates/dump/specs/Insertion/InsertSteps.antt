-- Steps of the insertion of a row: what the move leaves for the writer of the row, and what the two leave together.
-- Relies on the laws of slots and ranks, and on what the writer of one row promises (`packed`).
use Rattle.std.specs.Prelude.{ℕ, ◌+◌, ◌*◌, ◌-◌, ◌≤◌, ◌<◌, ◌≡◌, refl, List, [], ◌∷◌, ◌++◌, Bool, true, false, length, take, drop, leb}
use Rattle.image.specs.Prelude.{sym, ap, ap₂, ◌∙◌, append_assoc, none, arith, length-drop, length-take-le, leb-true, leb-false}
use Rattle.image.specs.Table.{find, with_row}
use Rattle.octets.specs.Put.{put, put-size}
use Rattle.packed.specs.Rows.Area.{rows_of, RowsFit, fit-fewer}
use Rattle.packed.specs.Rows.Steps.{rows-length}
use Rattle.packed.specs.Build.Rows.{RowPut}
use Rattle.dump.specs.Insertion.Insertion.{rank, slot, Inserted}
use Rattle.dump.specs.Insertion.Ranks.{with_at}
use Rattle.dump.specs.Insertion.Slots.{Bounded, bounded-alike, bounded-in, fit-each, rows_split, rows-between, rows-slots, slot-in, slot-before, slot-put, slot-behind}

module _ (area : List ℕ) (i m : ℕ) (fit : RowsFit m area) (order : i ≤ m) (room : m * 128 + 128 ≤ length area)
    (area₁ : List ℕ) (e : area₁ ≡ put area ((i + 1) * 128) (take ((m - i) * 128) (drop (i * 128) area))) where
  long : length (take ((m - i) * 128) (drop (i * 128) area)) ≡ (m - i) * 128
  long = let d = length-drop (i * 128) area in length-take-le ((m - i) * 128) (drop (i * 128) area) (omega arith)

  size : length area₁ ≡ length area
  size = let n = long in ap length e ∙ put-size area ((i + 1) * 128) (take ((m - i) * 128) (drop (i * 128) area)) (omega arith)

  stays : (t : ℕ) → t < i → slot area₁ t ≡ slot area t
  stays t h = ap (λ x. slot x t) e ∙ slot-before area (i + 1) (take ((m - i) * 128) (drop (i * 128) area)) t (omega arith) (omega arith)

  pub fit-front : RowsFit i area₁
  fit-front =
      let s = size in
      fit-each i area₁ (omega arith) (λ t h. bounded-alike area₁ area t t (stays t h) (bounded-in m area fit t (omega arith)))

  rows-front : rows_of i area₁ 0 ≡ rows_of i area 0
  rows-front = rows-slots i area₁ area 0 0 (λ q h. stays (0 + q) (omega arith)) (fit-fewer m (0 + i) area (omega arith) fit)

  module _ (path value area₂ : List ℕ) (same : length area₂ ≡ length area₁) (wrote : RowPut i area₁ area₂ path value) where
    moves : (t : ℕ) → i ≤ t → t < m → slot area₂ (t + 1) ≡ slot area t
    moves t h k =
        let z : i * 128 + 128 ≡ (i + 1) * 128 = omega arith in
        let y : t + 1 ≡ i + 1 + (t - i) = omega arith in
        let x : i + (t - i) ≡ t = omega arith in
        slot-behind area₂ area₁ (i + 1) (ap (λ q. drop q area₂) (sym z) ∙ wrote.behind ∙ ap (λ q. drop q area₁) z) (t + 1) (omega arith)
        ∙ ap₂ slot e y ∙ slot-put area (i + 1) (take ((m - i) * 128) (drop (i * 128) area)) (m - i) (t - i) (omega arith) long (omega arith)
        ∙ slot-in area i (m - i) (t - i) (omega arith) ∙ ap (slot area) x

    rows_back : rows_of (m - i) area₂ (i + 1) ≡ rows_of (m - i) area i
    rows_back = rows-slots (m - i) area₂ area (i + 1) i one (fit-fewer m (i + (m - i)) area (omega arith) fit)
      where
        one : (q : ℕ) → q < m - i → slot area₂ (i + 1 + q) ≡ slot area (i + q)
        one q h = let z : i + 1 + q ≡ i + q + 1 = omega arith in ap (slot area₂) z ∙ moves (i + q) (omega arith) (omega arith)

    bounded : (t : ℕ) → t < m + 1 → Bounded area₂ t
    bounded t h = go (leb t i) refl
      where
        go : (x : Bool) → leb t i ≡ x → Bounded area₂ t
        go true a = let l : t ≤ i = leb-true t i a in bounded-in (i + 1) area₂ wrote.fit t (omega arith)
        go false a =
            let l : i < t = leb-false t i a in
            let z : t - 1 + 1 ≡ t = omega arith in
            bounded-alike area₂ area t (t - 1) (ap (slot area₂) (sym z) ∙ moves (t - 1) (omega arith) (omega arith)) (bounded-in m area fit (t - 1) (omega arith))

    -- the rows before the place, the new row, the rows behind it
    rows_all : rows_of (m + 1) area₂ 0 ≡ rows_of i area 0 ++ (record { key = path; value = value } ∷ rows_of (m - i) area i)
    rows_all =
        let z : m + 1 ≡ i + 1 + (m - i) = omega arith in
        let y : 0 + (i + 1) ≡ i + 1 = omega arith in
        ap (λ k. rows_of k area₂ 0) z
        ∙ rows_split (i + 1) (m - i) area₂ 0
        ∙ ap₂ (λ a b. a ++ b) (wrote.rows ∙ ap (λ a. a ++ (record { key = path; value = value } ∷ [])) rows-front) (ap (rows_of (m - i) area₂) y ∙ rows_back)
        ∙ append_assoc (rows_of i area 0) (record { key = path; value = value } ∷ []) (rows_of (m - i) area i)

    module _ (from : ℕ) (place : i ≡ from + rank path (rows_of (m - from) area from)) (new : find path (rows_of (m - from) area from) ≡ none) where
      rows-around : rows_of (m - from) area from ≡ rows_of (i - from) area from ++ rows_of (m - i) area i
      rows-around = rows-between area from i m (omega arith) order

      rows_before : rows_of i area 0 ≡ rows_of from area 0 ++ rows_of (i - from) area from
      rows_before =
          let z : i ≡ from + (i - from) = omega arith in
          let y : 0 + from ≡ from = omega arith in
          ap (λ k. rows_of k area 0) z ∙ rows_split from (i - from) area 0 ∙ ap (λ t. rows_of from area 0 ++ rows_of (i - from) area t) y

      table : with_row path value (rows_of (m - from) area from) ≡ rows_of (i - from) area from ++ (record { key = path; value = value } ∷ rows_of (m - i) area i)
      table =
          let n = rows-length (i - from) area from in
          let r : rank path (rows_of (i - from) area from ++ rows_of (m - i) area i) ≡ rank path (rows_of (m - from) area from) = ap (rank path) (sym rows-around) in
          ap (with_row path value) rows-around
          ∙ with_at path value (rows_of (i - from) area from) (rows_of (m - i) area i) (omega arith) (ap (find path) (sym rows-around) ∙ new)

      pub inserted : Inserted from m area area₂ path value
      inserted =
          let s = size in
          record {
            fit = fit-each (m + 1) area₂ (omega arith) bounded;
            rows =
                rows_all
                ∙ ap (λ l. l ++ (record { key = path; value = value } ∷ rows_of (m - i) area i)) rows_before
                ∙ append_assoc (rows_of from area 0) (rows_of (i - from) area from) (record { key = path; value = value } ∷ rows_of (m - i) area i)
                ∙ ap (λ l. rows_of from area 0 ++ l) (sym table);
          }
