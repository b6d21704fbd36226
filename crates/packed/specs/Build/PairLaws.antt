-- Laws of the pairs of a leaf: row by row, what a leaf lifts, and that a leaf fits in its node.
-- Rely on specs/Rows/Steps (where a leaf ends) for the last.
use Rattle.std.specs.Prelude.{ℕ, ◌+◌, ◌-◌, ◌≤◌, ◌<◌, ◌≡◌, refl, List, [], ◌++◌, length, drop}
use Rattle.image.specs.Prelude.{sym, ap, ◌∙◌, append-nil, arith}
use Rattle.image.specs.Bytes.{shared}
use Rattle.image.specs.Entry.{pair}
use Rattle.image.specs.Sound.{highest}
use Rattle.laws.specs.Encode.{bytes_of, bytes_of_all}
use Rattle.packed.specs.Form.Packed.{key_of, first, pair_weight, short_rows}
use Rattle.laws.specs.Page.{pair_entries}
use Rattle.packed.specs.Form.Pages.{pairs-length}
use Rattle.packed.specs.Form.Neat.{short-weight}
use Rattle.packed.specs.Rows.Area.{row_at, rows_of, RowsFit, rows_step, leaf_end}
use Rattle.packed.specs.Rows.Branches.{low_of_row, low-later}
use Rattle.packed.specs.Rows.Steps.{high_at, leaf-ends}
use Rattle.packed.specs.Build.Pairs.{pair_bytes, leaf_lifts, leaf_bytes}

-- one row and on
pub pair_one : (k : ℕ) (area : List ℕ) (i : ℕ) → pair_bytes k 1 area i ≡ bytes_of (pair (drop k (row_at area i).key) (row_at area i).value)
unfolding pair_bytes rows_of short_rows pair_entries bytes_of_all
pair_one k area i = append-nil (bytes_of (pair (drop k (row_at area i).key) (row_at area i).value))

pub pairs-step : (k to : ℕ) (area : List ℕ) (i : ℕ) → i < to → pair_bytes k (to - i) area i ≡ pair_bytes k 1 area i ++ pair_bytes k (to - (i + 1)) area (i + 1)
pairs-step k to area i h = opened ∙ ap (λ x. x ++ pair_bytes k (to - (i + 1)) area (i + 1)) (sym (pair_one k area i))
  where
    opened : pair_bytes k (to - i) area i ≡ bytes_of (pair (drop k (row_at area i).key) (row_at area i).value) ++ pair_bytes k (to - (i + 1)) area (i + 1)
    opened = unfold pair_bytes in (ap (λ rs. bytes_of_all (pair_entries (short_rows k rs))) (rows_step to area i h) ∙ (unfold short_rows pair_entries bytes_of_all in refl))

pub pairs-done : (k to : ℕ) (area : List ℕ) (i : ℕ) → to ≤ i → pair_bytes k (to - i) area i ≡ []
unfolding pair_bytes rows_of short_rows pair_entries bytes_of_all
pairs-done k to area i h = let z : to - i ≡ 0 = omega arith in rw z refl

-- the high pivot of a leaf that ends before row j
pub high_end : (m : ℕ) (area : List ℕ) (j : ℕ) → m ≤ j → high_at m area j ≡ highest
unfolding high_at rows_of first
high_end m area j e = let z : m - j ≡ 0 = omega arith in rw z refl

pub high-key : (m : ℕ) (area : List ℕ) (j : ℕ) → j < m → high_at m area j ≡ (row_at area j).key
high-key m area j h = unfold high_at in (ap (first key_of highest) (rows_step m area j h) ∙ (unfold first in refl))

pub high-low : (m : ℕ) (area : List ℕ) (j : ℕ) → 1 ≤ j → j < m → high_at m area j ≡ low_of_row area j
high-low m area j o h = high-key m area j h ∙ sym (low-later area j (λ z. omega arith))

pub lifts-are : (m : ℕ) (area : List ℕ) (i j : ℕ) → length (shared (low_of_row area i) (high_at m area j)) ≡ leaf_lifts m area i j
unfolding leaf_lifts
lifts-are m area i j = refl

-- a leaf fits
pub leaf-fits : (m : ℕ) (area : List ℕ) → RowsFit m area → (i : ℕ) → i < m → (w : ℕ) → pair_weight (row_at area i) ≡ w → (j : ℕ) → j ≡ leaf_end m area (i + 1) w
    → leaf_bytes m area i j ≤ 1016
unfolding leaf_bytes pair_bytes
leaf-fits m area fit i h w e j f =
    let c = (leaf-ends m area fit i h w e j f).fits in
    let g = short-weight (leaf_lifts m area i j) (rows_of (j - i) area i) in
    let l = pairs-length (short_rows (leaf_lifts m area i j) (rows_of (j - i) area i)) in
    omega arith

pub bytes-of : (m : ℕ) (area : List ℕ) (i j k : ℕ) → k ≡ leaf_lifts m area i j → leaf_bytes m area i j ≡ length (pair_bytes k (j - i) area i)
unfolding leaf_bytes
bytes-of m area i j k e = ap (λ x. length (pair_bytes x (j - i) area i)) (sym e)
