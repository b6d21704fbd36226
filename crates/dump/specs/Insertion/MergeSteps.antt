-- Steps of the merge: one row put in; a chunk of rows set aside, from the last to the first; chunk after chunk.
-- Relies on the laws of slots, of moves and of tables (Merge).
use Rattle.std.specs.Prelude.{ℕ, ◌+◌, ◌*◌, ◌-◌, ◌≤◌, ◌<◌, ◌≡◌, refl, List, [], ◌∷◌, ◌++◌, Bool, true, false, length, take, drop, leb}
use Rattle.image.specs.Prelude.{sym, ap, ap₂, subst, ◌∙◌, append_assoc, append-nil, arith, length-append, length-drop, length-take-le, drop-drop, leb-true, leb-false}
use Rattle.image.specs.Table.{Row, put_all, rising}
use Rattle.octets.specs.Put.{put, put-size, put-nil}
use Rattle.laws.specs.Tables.{put-length}
use Rattle.packed.specs.Rows.Area.{row_at, rows_of, RowsFit, RowFits, row-fits, fit-fewer}
use Rattle.packed.specs.Rows.Steps.{rows-length}
use Rattle.packed.specs.Build.PutLaws.{put-before, put-after}
use Rattle.dump.specs.Insertion.Insertion.{rank, slot, Apart, RowMerged, Merged}
use Rattle.dump.specs.Insertion.Slots.{slot-long, part-long, part-fit, part-rows, join-fit, join-rows, rows-between, Bounded, bounded-alike, bounded-in, fit-each, rows_split, rows-slots, slot-in, slot-before, slot-put, slot-behind}
use Rattle.dump.specs.Insertion.Moves.{put-ahead}
use Rattle.dump.specs.Insertion.Merge.{rising-front, rising-back, rising-put, put-parts, put-empty, put_last, apart-last}

-- ONE ROW: the others are moved, and it is copied to its place
slot_read : (area : List ℕ) (t : ℕ) → take (t * 128 + 128 - t * 128) (drop (t * 128) area) ≡ slot area t
unfolding slot
slot_read area t = let z : t * 128 + 128 - t * 128 ≡ 128 = omega arith in ap (λ k. take k (drop (t * 128) area)) z

pub row-merged : (area area₁ area₂ aside path : List ℕ) (first high left r : ℕ) → (high + left + 1) * 128 ≤ length area → left * 128 + 128 ≤ length aside
    → first ≤ r → r ≤ high → path ≡ (row_at aside left).key → r ≡ first + rank path (rows_of (high - first) area first)
    → area₁ ≡ put area ((r + (left + 1)) * 128) (take ((high - r) * 128) (drop (r * 128) area))
    → area₂ ≡ put area₁ ((r + left) * 128) (take (left * 128 + 128 - left * 128) (drop (left * 128) aside)) → RowMerged area area₂ aside first high left r
row-merged area area₁ area₂ aside path first high left r room set low most read place moved copied =
    let s = slot-long aside left set in
    let d = length-drop (r * 128) area in
    let l = length-take-le ((high - r) * 128) (drop (r * 128) area) (omega arith) in
    let z : (r + (left + 1)) * 128 ≡ (r + left) * 128 + length (slot aside left) = omega arith in
    record {
      place = place ∙ ap (λ k. first + rank k (rows_of (high - first) area first)) read;
      low = low;
      most = most;
      bytes = copied
          ∙ ap₂ (λ x y. put x ((r + left) * 128) y) (moved ∙ ap (λ k. put area k (take ((high - r) * 128) (drop (r * 128) area))) z) (slot_read aside left)
          ∙ put-ahead area ((r + left) * 128) (slot aside left) (take ((high - r) * 128) (drop (r * 128) area)) (omega arith);
    }

-- A CHUNK, SET ASIDE
pub record Aside (entry aside : List ℕ) (middle end : ℕ) : Type 0 where
  pub room : (end - middle) * 128 ≤ length aside
  pub alike : (t : ℕ) → t < end - middle → slot aside t ≡ slot entry (middle + t)

pub part-size : (entry : List ℕ) (middle end : ℕ) → end * 128 ≤ length entry
    → length (take (end * 128 - middle * 128) (drop (middle * 128) entry)) ≡ end * 128 - middle * 128
part-size entry middle end room =
    let d = length-drop (middle * 128) entry in
    length-take-le (end * 128 - middle * 128) (drop (middle * 128) entry) (omega arith)

pub set-aside : (entry blank aside : List ℕ) (middle end : ℕ) → middle ≤ end → end ≤ middle + 32 → end * 128 ≤ length entry → length blank ≡ 4096
    → aside ≡ put blank 0 (take (end * 128 - middle * 128) (drop (middle * 128) entry)) → Aside entry aside middle end
set-aside entry blank aside middle end h few room l e = record { room = long; alike = one }
  where
    bytes : take (end * 128 - middle * 128) (drop (middle * 128) entry) ≡ take ((end - middle) * 128) (drop (middle * 128) entry)
    bytes = let z : end * 128 - middle * 128 ≡ (end - middle) * 128 = omega arith in ap (λ k. take k (drop (middle * 128) entry)) z

    chunk-size : length (take ((end - middle) * 128) (drop (middle * 128) entry)) ≡ (end - middle) * 128
    chunk-size = let z : end * 128 - middle * 128 ≡ (end - middle) * 128 = omega arith in ap length (sym bytes) ∙ part-size entry middle end room ∙ z

    is : aside ≡ put blank 0 (take ((end - middle) * 128) (drop (middle * 128) entry))
    is = e ∙ ap (put blank 0) bytes

    long : (end - middle) * 128 ≤ length aside
    long =
        let p = chunk-size in
        let s : length aside ≡ length blank = ap length is ∙ put-size blank 0 (take ((end - middle) * 128) (drop (middle * 128) entry)) (omega arith) in
        omega arith

    one : (t : ℕ) → t < end - middle → slot aside t ≡ slot entry (middle + t)
    one t k =
        let z : t ≡ 0 + t = omega arith in
        ap₂ slot is z ∙ slot-put blank 0 (take ((end - middle) * 128) (drop (middle * 128) entry)) (end - middle) t (omega arith) chunk-size k
        ∙ slot-in entry middle (end - middle) t k

-- the first `left` rows set aside are still to come in, among the rows up to `high`, which are as they were; `done` stands behind all these
pub record Merging (entry aside area : List ℕ) (first middle end high left : ℕ) : Type 0 where
  pub done : List ℕ
  pub bytes : area ≡ put entry ((high + left) * 128) done
  pub long : length done ≡ (end - (high + left)) * 128
  pub fit : RowsFit (end - (high + left)) done
  pub low : first ≤ high
  pub most : high ≤ middle
  pub few : left ≤ end - middle
  pub table : put_all (rows_of (end - middle) entry middle) (rows_of (middle - first) entry first)
      ≡ put_all (rows_of left aside 0) (rows_of (high - first) entry first) ++ rows_of (end - (high + left)) done 0
  pub apart : length (put_all (rows_of left aside 0) (rows_of (high - first) entry first)) ≡ left + (high - first)

module _ (entry aside : List ℕ) (first middle end : ℕ) (a : Apart entry first middle end) (set : Aside entry aside middle end) where
  aside-fit : RowsFit (end - middle) aside
  aside-fit =
      let r = set.room in
      let h = a.high in
      fit-each (end - middle) aside (omega arith) (λ t l. bounded-alike aside entry t (middle + t) (set.alike t l) (bounded-in end entry a.fit (middle + t) (omega arith)))

  aside-rows : rows_of (end - middle) aside 0 ≡ rows_of (end - middle) entry middle
  aside-rows =
      let h = a.high in
      rows-slots (end - middle) aside entry 0 middle one (fit-fewer end (middle + (end - middle)) entry (omega arith) a.fit)
    where
      one : (q : ℕ) → q < end - middle → slot aside (0 + q) ≡ slot entry (middle + q)
      one q l = let z : 0 + q ≡ q = omega arith in ap (slot aside) z ∙ set.alike q l

  pub merge-first : Merging entry aside entry first middle end middle (end - middle)
  unfolding rows_of
  merge-first =
      let h = a.high in
      let l = a.low in
      let z : end - (middle + (end - middle)) ≡ 0 = omega arith in
      let n = a.apart in
      record {
        done = [];
        bytes = sym (put-nil entry ((middle + (end - middle)) * 128));
        long = omega arith;
        fit = fit-each (end - (middle + (end - middle))) [] (omega arith) (λ t k. absurd (omega arith));
        low = l;
        most = omega arith;
        few = omega arith;
        table = ap (λ u. put_all u (rows_of (middle - first) entry first)) (sym aside-rows)
            ∙ sym (append-nil (put_all (rows_of (end - middle) aside 0) (rows_of (middle - first) entry first)))
            ∙ ap (λ k. put_all (rows_of (end - middle) aside 0) (rows_of (middle - first) entry first) ++ rows_of k [] 0) (sym z);
        apart = ap (λ u. length (put_all u (rows_of (middle - first) entry first))) aside-rows ∙ n ∙ omega arith;
      }

  module _ (area : List ℕ) (high left : ℕ) (m : Merging entry aside area first middle end high left) where
    below : (t : ℕ) → t < high + left → slot area t ≡ slot entry t
    below t h =
        let r = a.fit.room in
        let k = a.high in
        let o = m.most in
        let f = m.few in
        ap (λ x. slot x t) m.bytes ∙ slot-before entry (high + left) m.done t (omega arith) h

    size : length area ≡ length entry
    size =
        let r = a.fit.room in
        let k = a.high in
        let o = m.most in
        let f = m.few in
        let l = m.long in
        ap length m.bytes ∙ put-size entry ((high + left) * 128) m.done (omega arith)

    rows-below : rows_of (high - first) area first ≡ rows_of (high - first) entry first
    rows-below =
        let k = a.high in
        let l = m.low in
        let o = m.most in
        rows-slots (high - first) area entry first first (λ q h. below (first + q) (omega arith)) (fit-fewer end (first + (high - first)) entry (omega arith) a.fit)

    low-rises : rising (rows_of (high - first) entry first) ≡ true
    low-rises =
        rising-front (rows_of (high - first) entry first) (rows_of (middle - high) entry high)
        (ap rising (sym (rows-between entry first high middle m.low m.most)) ∙ a.rises)

    -- what is asked for the next row
    pub row-fit : RowsFit high area
    row-fit =
        let s = size in
        let r = a.fit.room in
        let k = a.high in
        let o = m.most in
        fit-each high area (omega arith) (λ t h. bounded-alike area entry t t (below t (omega arith)) (bounded-in end entry a.fit t (omega arith)))

    pub row-rises : rising (rows_of (high - first) area first) ≡ true
    row-rises = ap rising rows-below ∙ low-rises

    module _ (some : 0 < left) where
      pub row_room : (high + (left - 1) + 1) * 128 ≤ length area
      row_room =
          let s = size in
          let r = a.fit.room in
          let k = a.high in
          let o = m.most in
          let f = m.few in
          omega arith

      pub row-there : (left - 1) * 128 + 128 ≤ length aside
      row-there = let r = set.room in let f = m.few in omega arith

      pub row-fits-there : RowFits (left - 1) aside
      row-fits-there = let f = m.few in row-fits _ aside aside-fit (left - 1) (omega arith)

      module _ (area' : List ℕ) (r : ℕ) (x : RowMerged area area' aside first high (left - 1) r) where
        abbrev moved : List ℕ
        moved = take ((high - r) * 128) (drop (r * 128) entry)

        abbrev new : List ℕ
        new = slot aside (left - 1) ++ moved

        one-fit : RowsFit 1 (slot aside (left - 1))
        unfolding slot
        one-fit = let f = m.few in part-fit (end - middle) aside aside-fit (left - 1) 1 (omega arith)

        one_row : rows_of 1 (slot aside (left - 1)) 0 ≡ row_at aside (left - 1) ∷ []
        unfolding slot rows_of
        one_row = let f = m.few in part-rows (end - middle) aside aside-fit (left - 1) 1 (omega arith)

        moved_same : take ((high - r) * 128) (drop (r * 128) area) ≡ moved
        moved_same =
            let z = a.fit.room in
            let k = a.high in
            let o = m.most in
            let f = m.few in
            let q = x.most in
            ap (λ l. take ((high - r) * 128) (drop (r * 128) l)) m.bytes
            ∙ put-before entry ((high + left) * 128) m.done (r * 128) ((high - r) * 128) (omega arith) (omega arith)

        moved-long : length moved ≡ (high - r) * 128
        moved-long = let k = a.high in let o = m.most in let q = x.most in part-long end entry a.fit r (high - r) (omega arith)

        moved_fit : RowsFit (high - r) moved
        moved_fit = let k = a.high in let o = m.most in let q = x.most in part-fit end entry a.fit r (high - r) (omega arith)

        moved-rows : rows_of (high - r) moved 0 ≡ rows_of (high - r) entry r
        moved-rows = let k = a.high in let o = m.most in let q = x.most in part-rows end entry a.fit r (high - r) (omega arith)

        one-long : length (slot aside (left - 1)) ≡ 1 * 128
        one-long = slot-long aside (left - 1) row-there

        new-long : length new ≡ (1 + (high - r)) * 128
        new-long = let l = length-append (slot aside (left - 1)) moved in let p = one-long in let q = moved-long in omega arith

        new-fit : RowsFit (1 + (high - r)) new
        new-fit = join-fit 1 (high - r) (slot aside (left - 1)) moved one-long one-fit moved_fit

        new-rows : rows_of (1 + (high - r)) new 0 ≡ row_at aside (left - 1) ∷ rows_of (high - r) entry r
        new-rows = join-rows 1 (high - r) (slot aside (left - 1)) moved one-long one-fit moved_fit ∙ ap₂ (λ u v. u ++ v) one_row moved-rows

        count : 1 + (high - r) + (end - (high + left)) ≡ end - (r + (left - 1))
        count = let k = a.high in let o = m.most in let f = m.few in let q = x.most in omega arith

        -- the rows that are left, but the last of them; the rows before its place, and from there on
        abbrev others : List Row
        others = rows_of (left - 1) aside 0

        abbrev before : List Row
        before = rows_of (r - first) entry first

        abbrev since : List Row
        since = rows_of (high - r) entry r

        left-rows : rows_of left aside 0 ≡ others ++ (row_at aside (left - 1) ∷ [])
        unfolding rows_of
        left-rows =
            let z : left ≡ left - 1 + 1 = omega arith in
            let o : 0 + (left - 1) ≡ left - 1 = omega arith in
            ap (λ n. rows_of n aside 0) z ∙ rows_split (left - 1) 1 aside 0 ∙ ap (λ t. others ++ rows_of 1 aside t) o

        low-rows : rows_of (high - first) entry first ≡ before ++ since
        low-rows = rows-between entry first r high x.low x.most

        others-rise : rising (others ++ (row_at aside (left - 1) ∷ [])) ≡ true
        others-rise =
            let z : left - 0 ≡ left = omega arith in
            let y : end - middle - 0 ≡ end - middle = omega arith in
            ap rising (sym left-rows)
            ∙ rising-front (rows_of left aside 0) (rows_of (end - middle - left) aside left)
            (ap rising (sym (ap (λ n. rows_of n aside 0) (sym y) ∙ rows-between aside 0 left (end - middle) (omega arith) m.few ∙ ap (λ n. rows_of n aside 0 ++ rows_of (end - middle - left) aside left) z))
            ∙ ap rising aside-rows ∙ a.later)

        place : rank (row_at aside (left - 1)).key (before ++ since) ≡ length before
        place =
            let l : length before ≡ r - first = rows-length (r - first) entry first in
            let p = x.place in
            let e : rank (row_at aside (left - 1)).key (rows_of (high - first) area first) ≡ rank (row_at aside (left - 1)).key (before ++ since)
            = ap (rank (row_at aside (left - 1)).key) (rows-below ∙ low-rows) in
            omega arith

        apart-now : length (put_all (others ++ (row_at aside (left - 1) ∷ [])) (before ++ since)) ≡ length others + 1 + length (before ++ since)
        apart-now =
            let e : length (put_all (rows_of left aside 0) (rows_of (high - first) entry first)) ≡ length (put_all (others ++ (row_at aside (left - 1) ∷ [])) (before ++ since))
            = ap₂ (λ u t. length (put_all u t)) left-rows low-rows in
            let n : length others ≡ left - 1 = rows-length (left - 1) aside 0 in
            let l : length (before ++ since) ≡ high - first = ap length (sym low-rows) ∙ rows-length (high - first) entry first in
            let p = m.apart in
            omega arith

        low-rising : rising (before ++ since) ≡ true
        low-rising = ap rising (sym low-rows) ∙ low-rises

        pub merge-next : Merging entry aside area' first middle end r (left - 1)
        merge-next =
            let k = a.high in
            let o = m.most in
            let f = m.few in
            let q = x.most in
            let w = x.low in
            let z : (high + left) * 128 ≡ (r + (left - 1)) * 128 + length new = let l = new-long in omega arith in
            let l = new-long in
            let g = m.long in
            let h = length-append new m.done in
            let v = a.fit.room in
            let c = count in
            let n : length others ≡ left - 1 = rows-length (left - 1) aside 0 in
            let b : length before ≡ r - first = rows-length (r - first) entry first in
            let t = apart-last others (row_at aside (left - 1)) before since others-rise low-rising place apart-now in
            record {
              done = new ++ m.done;
              bytes = x.bytes
                  ∙ ap₂ (λ p y. put p ((r + (left - 1)) * 128) (slot aside (left - 1) ++ y)) (m.bytes ∙ ap (λ p. put entry p m.done) z) moved_same
                  ∙ put-ahead entry ((r + (left - 1)) * 128) new m.done (omega arith);
              long = omega arith;
              fit = subst (λ p. RowsFit p (new ++ m.done)) count (join-fit (1 + (high - r)) (end - (high + left)) new m.done new-long new-fit m.fit);
              low = w;
              most = omega arith;
              few = omega arith;
              table = m.table ∙ ap (λ p. p ++ rows_of (end - (high + left)) m.done 0)
                  (ap₂ put_all left-rows low-rows ∙ put_last others (row_at aside (left - 1)) before since others-rise low-rising place apart-now)
                  ∙ append_assoc (put_all others before) (row_at aside (left - 1) ∷ since) (rows_of (end - (high + left)) m.done 0)
                  ∙ ap (λ p. put_all others before ++ p) (sym (ap (λ p. rows_of p (new ++ m.done) 0) (sym count)
                  ∙ join-rows (1 + (high - r)) (end - (high + left)) new m.done new-long new-fit m.fit
                  ∙ ap (λ p. p ++ rows_of (end - (high + left)) m.done 0) new-rows));
              apart = omega arith;
            }

    -- none is left
    module _ (none : left ≤ 0) where
      high_is : high + left ≡ high
      high_is = omega arith

      done-bytes : area ≡ put entry (high * 128) m.done
      done-bytes = m.bytes ∙ ap (λ n. put entry (n * 128) m.done) high_is

      done-long : length m.done ≡ (end - high) * 128
      done-long = m.long ∙ ap (λ n. (end - n) * 128) high_is

      done-fit : RowsFit (end - high) m.done
      done-fit = subst (λ n. RowsFit (end - n) m.done) high_is m.fit

      above : (t : ℕ) → t < end - high → slot area (high + t) ≡ slot m.done t
      above t h =
          let r = a.fit.room in
          let k = a.high in
          let o = m.most in
          ap (λ x. slot x (high + t)) done-bytes ∙ slot-put entry high m.done (end - high) t (omega arith) done-long h

      pub merge-end : Merged entry area first middle end
      unfolding rows_of put_all
      merge-end =
          let s = size in
          let r = a.fit.room in
          let k = a.high in
          let o = m.most in
          let w = m.low in
          let l = done-long in
          let z : left ≡ 0 = omega arith in
          record {
            fit = fit-each end area (omega arith) (λ t h. go t h (leb high t) refl);
            front = rows-slots first area entry 0 0 (λ q h. below (0 + q) (omega arith)) (fit-fewer end (0 + first) entry (omega arith) a.fit);
            rows = rows-between area first high end w (omega arith)
                ∙ ap₂ (λ p q. p ++ q) rows-below (rows-slots (end - high) area m.done high 0 one (fit-fewer (end - high) (0 + (end - high)) m.done (omega arith) done-fit))
                ∙ sym (m.table ∙ ap₂ (λ p q. put_all (rows_of p aside 0) (rows_of (high - first) entry first) ++ rows_of (end - q) m.done 0) z high_is);
            behind = ap (drop (end * 128)) done-bytes ∙ put-after entry (high * 128) m.done (end * 128) (omega arith) (omega arith);
          }
        where
          one : (q : ℕ) → q < end - high → slot area (high + q) ≡ slot m.done (0 + q)
          one q h = let y : q ≡ 0 + q = omega arith in above q h ∙ ap (slot m.done) y

          go : (t : ℕ) → t < end → (b : Bool) → leb high t ≡ b → Bounded area t
          go t h true e =
              let l : high ≤ t = leb-true high t e in
              let z : t ≡ high + (t - high) = omega arith in
              bounded-alike area m.done t (t - high) (ap (slot area) z ∙ above (t - high) (omega arith)) (bounded-in (end - high) m.done done-fit (t - high) (omega arith))
          go t h false e =
              let l : t < high = leb-false high t e in
              bounded-alike area entry t t (below t (omega arith)) (bounded-in end entry a.fit t h)

-- CHUNK AFTER CHUNK
module _ (entry : List ℕ) (first middle end : ℕ) (a : Apart entry first middle end) where
  abbrev table : List Row
  table = rows_of (middle - first) entry first

  abbrev upto : ℕ → List Row
  upto k = rows_of (k - middle) entry middle

  pub merged-none : Merged entry entry first middle middle
  unfolding rows_of put_all
  merged-none =
      let z : 0 ≡ middle - middle = omega arith in
      record {
        fit = fit-fewer end middle entry a.high a.fit;
        front = refl;
        rows = ap (λ n. put_all (rows_of n entry middle) table) z;
        behind = refl;
      }

  -- no rows behind, or none in front
  pub merged-same : end ≤ middle → Merged entry entry first middle end
  merged-same h =
      let k = a.high in
      let z : middle ≡ end = omega arith in
      subst (λ n. Merged entry entry first middle n) z merged-none

  pub merged-alone : middle ≤ first → Merged entry entry first middle end
  unfolding rows_of
  merged-alone h =
      let l = a.low in
      let z : first ≡ middle = omega arith in
      let y : 0 ≡ middle - first = omega arith in
      record {
        fit = a.fit;
        front = refl;
        rows = ap (λ n. rows_of (end - n) entry n) z ∙ sym (put-empty (upto end) a.later) ∙ ap (λ n. put_all (upto end) (rows_of n entry first)) y;
        behind = refl;
      }

  module _ (area : List ℕ) (done next : ℕ) (from : middle ≤ done) (on : done ≤ next) (to : next ≤ end) (size : length area ≡ length entry)
      (m : Merged entry area first middle done) where
    abbrev chunk : List Row
    chunk = rows_of (next - done) entry done

    behind-same : (t : ℕ) → done ≤ t → slot area t ≡ slot entry t
    behind-same = slot-behind area entry done m.behind

    chunk-same : rows_of (next - done) area done ≡ chunk
    chunk-same =
        rows-slots (next - done) area entry done done (λ q h. behind-same (done + q) (omega arith)) (fit-fewer end (done + (next - done)) entry (omega arith) a.fit)

    upto_next : upto next ≡ upto done ++ chunk
    upto_next = rows-between entry middle done next from on

    upto-end : upto end ≡ upto next ++ rows_of (end - next) entry next
    upto-end = rows-between entry middle next end (omega arith) to

    next-rises : rising (upto done ++ chunk) ≡ true
    next-rises =
        ap rising (sym upto_next) ∙ rising-front (upto next) (rows_of (end - next) entry next) (ap rising (sym upto-end) ∙ a.later)

    chunk_in : put_all (rows_of (next - done) area done) (rows_of (done - first) area first) ≡ put_all (upto next) table
    chunk_in =
        ap₂ put_all chunk-same m.rows ∙ put-parts (upto done) chunk table next-rises a.rises ∙ ap (λ u. put_all u table) (sym upto_next)

    chunk_count : length (put_all (upto next) table) ≡ next - first
    chunk_count =
        let l = a.low in
        let e : length (put_all (rows_of (end - next) entry next) (put_all (upto next) table)) ≡ length (put_all (upto end) table) =
        ap length (put-parts (upto next) (rows_of (end - next) entry next) table (ap rising (sym upto-end) ∙ a.later) a.rises ∙ ap (λ u. put_all u table) (sym upto-end)) in
        let p = put-length (rows_of (end - next) entry next) (put_all (upto next) table) in
        let q = put-length (upto next) table in
        let w : length (rows_of (end - next) entry next) ≡ end - next = rows-length (end - next) entry next in
        let v : length (upto next) ≡ next - middle = rows-length (next - middle) entry middle in
        let u : length table ≡ middle - first = rows-length (middle - first) entry first in
        let n = a.apart in
        omega arith

    pub chunk-apart : Apart area first done next
    chunk-apart =
        let r = a.fit.room in
        let l = a.low in
        record {
          fit = fit-each next area (omega arith) (λ t h. go t h (leb done t) refl);
          low = omega arith;
          high = on;
          rises = ap rising m.rows ∙ rising-put (upto done) table a.rises;
          later = ap rising chunk-same ∙ rising-back (upto done) chunk next-rises;
          apart = ap length chunk_in ∙ chunk_count;
        }
      where
        go : (t : ℕ) → t < next → (b : Bool) → leb done t ≡ b → Bounded area t
        go t h true e =
            let k : done ≤ t = leb-true done t e in
            bounded-alike area entry t t (behind-same t k) (bounded-in end entry a.fit t (omega arith))
        go t h false e = bounded-in done area m.fit t (leb-false done t e)

    pub chunk-merged : (area' : List ℕ) → Merged area area' first done next → Merged entry area' first middle next
    chunk-merged area' y =
        let z : next * 128 ≡ done * 128 + (next - done) * 128 = omega arith in
        record {
          fit = y.fit;
          front = y.front ∙ m.front;
          rows = y.rows ∙ chunk_in;
          behind = y.behind
              ∙ ap (λ n. drop n area) z ∙ sym (drop-drop ((next - done) * 128) (done * 128) area) ∙ ap (drop ((next - done) * 128)) m.behind
              ∙ drop-drop ((next - done) * 128) (done * 128) entry ∙ ap (λ n. drop n entry) (sym z);
        }
