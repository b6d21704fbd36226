-- The 128 bytes of a row, and rows side by side: a row is read from its own bytes only, so rows whose bytes are alike are alike.
-- Relies on the layout of a row and on the laws of puts (`packed`).
use Rattle.std.specs.Prelude.{ℕ, zero, suc, ◌+◌, ◌*◌, ◌-◌, ◌≤◌, ◌<◌, ◌≡◌, refl, List, [], ◌∷◌, ◌++◌, Bool, true, false, length, take, drop, get_or, leb}
use Rattle.image.specs.Prelude.{sym, ap, ap₂, ◌∙◌, arith, length-append, length-drop, length-take-le, take-take, drop-drop, drop-append-le, take-append-le, drop-append-add, take-append_seam, drop-append_seam, leb-true, leb-false}
use Rattle.octets.specs.Put.{put}
use Rattle.image.specs.Table.{Row}
use Rattle.packed.specs.Rows.Area.{row_at, rows_of, RowsFit, fit-fewer}
use Rattle.packed.specs.Rows.Steps.{rows-length}
use Rattle.packed.specs.Build.PutLaws.{put-before, put_same, byte_at}
use Rattle.dump.specs.Insertion.Insertion.{slot}

-- a part of a beginning
part-part : (n k q : ℕ) (l : List ℕ) → q + n ≤ k → take n (drop q (take k l)) ≡ take n (drop q l)
part-part n k zero l h = take-take n k l (omega arith)
part-part n zero (suc q) l h = absurd (omega arith)
part-part n (suc k) (suc q) [] h = refl
part-part n (suc k) (suc q) (x ∷ l) h = part-part n k q l (omega arith)

slot-byte : (area : List ℕ) (t q : ℕ) → q < 128 → get_or area (t * 128 + q) 0 ≡ get_or (slot area t) q 0
unfolding slot
slot-byte area t q h = sym (byte_at area (t * 128) 128 q h)

slot-part : (area : List ℕ) (t q n : ℕ) → q + n ≤ 128 → take n (drop (t * 128 + q) area) ≡ take n (drop q (slot area t))
unfolding slot
slot-part area t q n h =
    ap (take n) (sym (drop-drop q (t * 128) area)) ∙ sym (part-part n 128 q (drop (t * 128) area) h)

-- two areas with the same bytes in a row of each
module _ (a b : List ℕ) (t u : ℕ) (e : slot a t ≡ slot b u) where
  byte-alike : (q : ℕ) → q < 128 → get_or a (t * 128 + q) 0 ≡ get_or b (u * 128 + q) 0
  byte-alike q h = slot-byte a t q h ∙ ap (λ x. get_or x q 0) e ∙ sym (slot-byte b u q h)

  part-alike : (q n : ℕ) → q + n ≤ 128 → take n (drop (t * 128 + q) a) ≡ take n (drop (u * 128 + q) b)
  part-alike q n h = slot-part a t q n h ∙ ap (λ x. take n (drop q x)) e ∙ sym (slot-part b u q n h)

  path-length-alike : get_or a (t * 128) 0 ≡ get_or b (u * 128) 0
  path-length-alike =
      let y : t * 128 ≡ t * 128 + 0 = omega arith in
      let z : u * 128 + 0 ≡ u * 128 = omega arith in
      ap (λ k. get_or a k 0) y ∙ byte-alike 0 (omega arith) ∙ ap (λ k. get_or b k 0) z

  value-length-alike : get_or a (t * 128 + 1) 0 ≡ get_or b (u * 128 + 1) 0
  value-length-alike = byte-alike 1 (omega arith)

  row-alike : get_or b (u * 128) 0 ≤ 64 → get_or b (u * 128 + 1) 0 ≤ 60 → row_at a t ≡ row_at b u
  unfolding row_at
  row-alike h k =
      ap₂ (λ x y. record { key = x; value = y })
      (ap (λ n. take n (drop (t * 128 + 4) a)) path-length-alike ∙ part-alike 4 (get_or b (u * 128) 0) (omega arith))
      (ap (λ n. take n (drop (t * 128 + 68) a)) value-length-alike ∙ part-alike 68 (get_or b (u * 128 + 1) 0) (omega arith))

-- the lengths in row t are in bounds
abbrev pub Bounded : List ℕ → ℕ → Type 0
Bounded area t = (get_or area (t * 128) 0 ≤ 64) × (get_or area (t * 128 + 1) 0 ≤ 60)

pub bounded-alike : (a b : List ℕ) (t u : ℕ) → slot a t ≡ slot b u → Bounded b u → Bounded a t
bounded-alike a b t u e h = (rw (path-length-alike a b t u e) h.0, rw (value-length-alike a b t u e) h.1)

pub bounded-in : (m : ℕ) (area : List ℕ) → RowsFit m area → (t : ℕ) → t < m → Bounded area t
bounded-in m area f t h = (f.paths t h, f.values t h)

pub fit-each : (m : ℕ) (area : List ℕ) → 128 * m ≤ length area → ((t : ℕ) → t < m → Bounded area t) → RowsFit m area
fit-each m area r h = record { room = r; paths = λ t k. (h t k).0; values = λ t k. (h t k).1 }

-- rows one after the other
pub rows_split : (j k : ℕ) (area : List ℕ) (i : ℕ) → rows_of (j + k) area i ≡ rows_of j area i ++ rows_of k area (i + j)
unfolding rows_of
rows_split zero k area i =
    let y : 0 + k ≡ k = omega arith in
    let z : i ≡ i + 0 = omega arith in
    ap₂ (λ n t. rows_of n area t) y z
rows_split (suc j) k area i =
    let y : suc j + k ≡ suc (j + k) = omega arith in
    let z : suc i + j ≡ i + suc j = omega arith in
    ap (λ n. rows_of n area i) y
    ∙ ap (λ l. row_at area i ∷ l) (rows_split j k area (suc i) ∙ ap (λ t. rows_of j area (suc i) ++ rows_of k area t) z)

pub rows-between : (area : List ℕ) (i j k : ℕ) → i ≤ j → j ≤ k → rows_of (k - i) area i ≡ rows_of (j - i) area i ++ rows_of (k - j) area j
rows-between area i j k h l =
    let z : k - i ≡ j - i + (k - j) = omega arith in
    let o : i + (j - i) ≡ j = omega arith in
    ap (λ n. rows_of n area i) z ∙ rows_split (j - i) (k - j) area i ∙ ap (λ t. rows_of (j - i) area i ++ rows_of (k - j) area t) o

-- equal lists whose first parts are of one length
fronts : {A : Type 0} (a b c d : List A) → a ++ b ≡ c ++ d → length a ≡ length c → (a ≡ c) × (b ≡ d)
fronts a b c d e l = (
  sym (take-append_seam a b) ∙ ap (take (length a)) e ∙ ap (λ n. take n (c ++ d)) l ∙ take-append_seam c d,
  sym (drop-append_seam a b) ∙ ap (drop (length a)) e ∙ ap (λ n. drop n (c ++ d)) l ∙ drop-append_seam c d,
)

-- r rows whose first ones are those of another area: so they stand, and the rest follows
pub rows-parts : (first r : ℕ) (a b : List ℕ) (t : List Row) → first ≤ r → rows_of r b 0 ≡ rows_of first a 0 ++ t
    → (rows_of first b 0 ≡ rows_of first a 0) × (rows_of (r - first) b first ≡ t)
rows-parts first r a b t h e =
    let z : r ≡ first + (r - first) = omega arith in
    let o : 0 + first ≡ first = omega arith in
    let w : rows_of first b 0 ++ rows_of (r - first) b first ≡ rows_of first a 0 ++ t
    = ap (λ j. rows_of first b 0 ++ rows_of (r - first) b j) (sym o) ∙ sym (rows_split first (r - first) b 0) ∙ ap (λ n. rows_of n b 0) (sym z) ∙ e in
    fronts (rows_of first b 0) (rows_of (r - first) b first) (rows_of first a 0) t w (rows-length first b 0 ∙ sym (rows-length first a 0))

-- the rows of one area from t on are those of another from u on
rows_alike : (k : ℕ) (a b : List ℕ) (t u : ℕ) → ((q : ℕ) → q < k → row_at a (t + q) ≡ row_at b (u + q)) → rows_of k a t ≡ rows_of k b u
unfolding rows_of
rows_alike zero a b t u h = refl
rows_alike (suc k) a b t u h =
    ap₂ (λ r l. r ∷ l) here (rows_alike k a b (suc t) (suc u) next)
  where
    here : row_at a t ≡ row_at b u
    here =
        let y : t ≡ t + 0 = omega arith in
        let z : u + 0 ≡ u = omega arith in
        ap (row_at a) y ∙ h 0 (omega arith) ∙ ap (row_at b) z

    next : (q : ℕ) → q < k → row_at a (suc t + q) ≡ row_at b (suc u + q)
    next q l =
        let y : suc t + q ≡ t + suc q = omega arith in
        let z : u + suc q ≡ suc u + q = omega arith in
        ap (row_at a) y ∙ h (suc q) (omega arith) ∙ ap (row_at b) z

-- the same, told by the bytes
pub rows-slots : (k : ℕ) (a b : List ℕ) (t u : ℕ) → ((q : ℕ) → q < k → slot a (t + q) ≡ slot b (u + q)) → RowsFit (u + k) b → rows_of k a t ≡ rows_of k b u
rows-slots k a b t u e f =
    rows_alike k a b t u (λ q h. row-alike a b (t + q) (u + q) (e q h) (f.paths (u + q) (omega arith)) (f.values (u + q) (omega arith)))

-- a part of what was put
put-part : (l : List ℕ) (at : ℕ) (bs : List ℕ) (q n : ℕ) → at ≤ length l → q + n ≤ length bs → take n (drop (at + q) (put l at bs)) ≡ take n (drop q bs)
put-part l at bs q n h k =
    ap (take n) (sym (drop-drop q at (put l at bs)))
    ∙ sym (part-part n (length bs) q (drop at (put l at bs)) k)
    ∙ ap (λ x. take n (drop q x)) (put_same l at bs h)

-- THE ROWS OF A PART, OF TWO PARTS, AND OF BYTES THAT WERE PUT
pub slot-in : (area : List ℕ) (i n t : ℕ) → t < n → slot (take (n * 128) (drop (i * 128) area)) t ≡ slot area (i + t)
unfolding slot
slot-in area i n t h =
    let z : i * 128 + t * 128 ≡ (i + t) * 128 = omega arith in
    part-part 128 (n * 128) (t * 128) (drop (i * 128) area) (omega arith)
    ∙ ap (take 128) (drop-drop (t * 128) (i * 128) area) ∙ ap (λ q. take 128 (drop q area)) z

slot-front : (x y : List ℕ) (j t : ℕ) → length x ≡ j * 128 → t < j → slot (x ++ y) t ≡ slot x t
unfolding slot
slot-front x y j t l h =
    let d = length-drop (t * 128) x in
    ap (take 128) (drop-append-le (t * 128) x y (omega arith)) ∙ take-append-le 128 (drop (t * 128) x) y (omega arith)

slot-back : (x y : List ℕ) (j t : ℕ) → length x ≡ j * 128 → slot (x ++ y) (j + t) ≡ slot y t
unfolding slot
slot-back x y j t l =
    let z : (j + t) * 128 ≡ length x + t * 128 = omega arith in
    ap (λ q. take 128 (drop q (x ++ y))) z ∙ ap (take 128) (drop-append-add x y (t * 128))

pub slot-before : (l : List ℕ) (i : ℕ) (bs : List ℕ) (t : ℕ) → i * 128 ≤ length l → t < i → slot (put l (i * 128) bs) t ≡ slot l t
unfolding slot
slot-before l i bs t r h = put-before l (i * 128) bs (t * 128) 128 (omega arith) r

pub slot-put : (l : List ℕ) (i : ℕ) (bs : List ℕ) (n t : ℕ) → i * 128 ≤ length l → length bs ≡ n * 128 → t < n → slot (put l (i * 128) bs) (i + t) ≡ slot bs t
unfolding slot
slot-put l i bs n t r e h =
    let z : (i + t) * 128 ≡ i * 128 + t * 128 = omega arith in
    ap (λ q. take 128 (drop q (put l (i * 128) bs))) z ∙ put-part l (i * 128) bs (t * 128) 128 r (omega arith)

-- two areas with the same bytes from row i on
pub slot-behind : (a b : List ℕ) (i : ℕ) → drop (i * 128) a ≡ drop (i * 128) b → (t : ℕ) → i ≤ t → slot a t ≡ slot b t
unfolding slot
slot-behind a b i e t h =
    let z : t * 128 ≡ i * 128 + (t - i) * 128 = omega arith in
    ap (λ q. take 128 (drop q a)) z ∙ ap (take 128) (sym (drop-drop ((t - i) * 128) (i * 128) a))
    ∙ ap (λ x. take 128 (drop ((t - i) * 128) x)) e
    ∙ ap (take 128) (drop-drop ((t - i) * 128) (i * 128) b) ∙ ap (λ q. take 128 (drop q b)) (sym z)

pub slot-long : (area : List ℕ) (t : ℕ) → t * 128 + 128 ≤ length area → length (slot area t) ≡ 128
unfolding slot
slot-long area t h = let d = length-drop (t * 128) area in length-take-le 128 (drop (t * 128) area) (omega arith)

-- ROWS AS BYTES: the rows of a part, and of two parts side by side
module _ (m : ℕ) (area : List ℕ) (fit : RowsFit m area) (i n : ℕ) (inside : i + n ≤ m) where
  pub part-long : length (take (n * 128) (drop (i * 128) area)) ≡ n * 128
  part-long =
      let r = fit.room in
      let d = length-drop (i * 128) area in
      length-take-le (n * 128) (drop (i * 128) area) (omega arith)

  pub part-fit : RowsFit n (take (n * 128) (drop (i * 128) area))
  part-fit =
      let l = part-long in
      fit-each n (take (n * 128) (drop (i * 128) area)) (omega arith)
      (λ t h. bounded-alike (take (n * 128) (drop (i * 128) area)) area t (i + t) (slot-in area i n t h) (bounded-in m area fit (i + t) (omega arith)))

  pub part-rows : rows_of n (take (n * 128) (drop (i * 128) area)) 0 ≡ rows_of n area i
  part-rows = rows-slots n (take (n * 128) (drop (i * 128) area)) area 0 i one (fit-fewer m (i + n) area inside fit)
    where
      one : (q : ℕ) → q < n → slot (take (n * 128) (drop (i * 128) area)) (0 + q) ≡ slot area (i + q)
      one q h = let z : 0 + q ≡ q = omega arith in ap (slot (take (n * 128) (drop (i * 128) area))) z ∙ slot-in area i n q h

module _ (j k : ℕ) (x y : List ℕ) (long : length x ≡ j * 128) (fit : RowsFit j x) (later : RowsFit k y) where
  pub join-fit : RowsFit (j + k) (x ++ y)
  join-fit =
      let r = later.room in
      let l = length-append x y in
      fit-each (j + k) (x ++ y) (omega arith) (λ t h. go t h (leb j t) refl)
    where
      go : (t : ℕ) → t < j + k → (b : Bool) → leb j t ≡ b → Bounded (x ++ y) t
      go t h true a =
          let l : j ≤ t = leb-true j t a in
          let z : t ≡ j + (t - j) = omega arith in
          bounded-alike (x ++ y) y t (t - j) (ap (slot (x ++ y)) z ∙ slot-back x y j (t - j) long) (bounded-in k y later (t - j) (omega arith))
      go t h false a =
          let l : t < j = leb-false j t a in
          bounded-alike (x ++ y) x t t (slot-front x y j t long l) (bounded-in j x fit t l)

  pub join-rows : rows_of (j + k) (x ++ y) 0 ≡ rows_of j x 0 ++ rows_of k y 0
  join-rows =
      rows_split j k (x ++ y) 0
      ∙ ap₂ (λ a b. a ++ b) (rows-slots j (x ++ y) x 0 0 (λ q h. slot-front x y j (0 + q) long (omega arith)) (fit-fewer j (0 + j) x (omega arith) fit))
      (rows-slots k (x ++ y) y (0 + j) 0 one (fit-fewer k (0 + k) y (omega arith) later))
    where
      one : (q : ℕ) → q < k → slot (x ++ y) (0 + j + q) ≡ slot y (0 + q)
      one q h =
          let z : 0 + j + q ≡ j + q = omega arith in
          let o : q ≡ 0 + q = omega arith in
          ap (slot (x ++ y)) z ∙ slot-back x y j q long ∙ ap (slot y) o
