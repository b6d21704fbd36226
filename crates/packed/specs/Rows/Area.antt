-- Rows of 128 bytes: path length, value length, u16 mark, 64 bytes for the path, 60 for the value.
use Rattle.std.specs.Prelude.{ℕ, zero, suc, ◌+◌, ◌*◌, ◌-◌, ◌≤◌, ◌<◌, ◌≡◌, List, [], ◌∷◌, length, take, drop, get_or}
use Rattle.image.specs.Prelude.{ap, ap₂, ◌∙◌, arith, length-drop, length-take-le}
use Rattle.image.specs.Table.{Row}
use Rattle.packed.specs.Form.Chunk.{end_of}
use Rattle.packed.specs.Form.Packed.{pair_weight}

unfoldable pub row_at : List ℕ → ℕ → Row
row_at area i =
    record {
      key = take (get_or area (i * 128) 0) (drop (i * 128 + 4) area);
      value = take (get_or area (i * 128 + 1) 0) (drop (i * 128 + 68) area);
    }

-- k rows from row i on
unfoldable pub rows_of : ℕ → List ℕ → ℕ → List Row
rows_of zero area i = []
rows_of (suc k) area i = row_at area i ∷ rows_of k area (suc i)

-- the lengths of m rows are in bounds
pub record RowsFit (m : ℕ) (area : List ℕ) : Type 0 where
  pub room : 128 * m ≤ length area
  pub paths : (i : ℕ) → i < m → get_or area (i * 128) 0 ≤ 64
  pub values : (i : ℕ) → i < m → get_or area (i * 128 + 1) 0 ≤ 60

-- row i is in the area, and its lengths are in bounds
pub record RowFits (i : ℕ) (area : List ℕ) : Type 0 where
  pub room : i * 128 + 128 ≤ length area
  pub path : get_or area (i * 128) 0 ≤ 64
  pub value : get_or area (i * 128 + 1) 0 ≤ 60

pub row-fits : (m : ℕ) (area : List ℕ) → RowsFit m area → (i : ℕ) → i < m → RowFits i area
row-fits m area f i h = let r = f.room in record { room = omega arith; path = f.paths i h; value = f.values i h }

pub fit-fewer : (m k : ℕ) (area : List ℕ) → k ≤ m → RowsFit m area → RowsFit k area
fit-fewer m k area h f =
    let r = f.room in
    record { room = omega arith; paths = λ i l. f.paths i (omega arith); values = λ i l. f.values i (omega arith) }

-- what a row is read as
pub record RowIs (i : ℕ) (area path value : List ℕ) : Type 0 where
  pub path_is : path ≡ (row_at area i).key
  pub value_is : value ≡ (row_at area i).value
  pub path_length : length path ≡ get_or area (i * 128) 0
  pub value_length : length value ≡ get_or area (i * 128 + 1) 0

pub row-is : (i : ℕ) (area : List ℕ) → RowFits i area → (p v : List ℕ) → p ≡ drop (i * 128 + 4) area → v ≡ drop (i * 128 + 68) area
    → RowIs i area (take (get_or area (i * 128) 0) p) (take (get_or area (i * 128 + 1) 0) v)
unfolding row_at
row-is i area f p v a b =
    let r = f.room in
    let x = f.path in
    let y = f.value in
    let m = ap length a ∙ length-drop (i * 128 + 4) area in
    let n = ap length b ∙ length-drop (i * 128 + 68) area in
    let l = length-take-le (get_or area (i * 128) 0) p (omega arith) in
    let k = length-take-le (get_or area (i * 128 + 1) 0) v (omega arith) in
    record {
      path_is = ap (take (get_or area (i * 128) 0)) a;
      value_is = ap (take (get_or area (i * 128 + 1) 0)) b;
      path_length = l;
      value_length = k;
    }

pub key-length : (m : ℕ) (area : List ℕ) → RowsFit m area → (i : ℕ) → i < m → length (row_at area i).key ≡ get_or area (i * 128) 0
unfolding row_at
key-length m area f i h =
    let r = f.room in
    let a = f.paths i h in
    length-take-le (get_or area (i * 128) 0) (drop (i * 128 + 4) area) (rw (length-drop (i * 128 + 4) area) (omega arith))

pub row-weight : (m : ℕ) (area : List ℕ) → RowsFit m area → (i : ℕ) → i < m → pair_weight (row_at area i) ≡ 6 + get_or area (i * 128) 0 + get_or area (i * 128 + 1) 0
unfolding row_at
row-weight m area f i h =
    let r = f.room in
    let a = f.paths i h in
    let b = f.values i h in
    rw (
      length-take-le (get_or area (i * 128) 0) (drop (i * 128 + 4) area) (rw (length-drop (i * 128 + 4) area) (omega arith)),
      length-take-le (get_or area (i * 128 + 1) 0) (drop (i * 128 + 68) area) (rw (length-drop (i * 128 + 68) area) (omega arith)),
    )

-- what row i adds to a leaf
abbrev pub row_adds : List ℕ → ℕ → ℕ
row_adds area i = 6 + get_or area (i * 128) 0 + get_or area (i * 128 + 1) 0

-- where a leaf ends that has `used` bytes in use and may go on at row i
abbrev pub leaf_end : ℕ → List ℕ → ℕ → ℕ → ℕ
leaf_end m area i used = end_of (row_adds area) m i used

pub rows_step : (m : ℕ) (area : List ℕ) (i : ℕ) → i < m → rows_of (m - i) area i ≡ row_at area i ∷ rows_of (m - (i + 1)) area (i + 1)
unfolding rows_of
rows_step m area i h =
    let z : m - i ≡ suc (m - suc i) = omega arith in
    let a : m - suc i ≡ m - (i + 1) = omega arith in
    let b : suc i ≡ i + 1 = omega arith in
    rw z (ap₂ (λ k j. row_at area i ∷ rows_of k area j) a b)
