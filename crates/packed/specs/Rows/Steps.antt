-- What the loop over the rows needs of the definitions: one leaf, and on.
use Rattle.std.specs.Prelude.{ℕ, zero, suc, ◌+◌, ◌-◌, ◌≤◌, ◌<◌, ◌≡◌, refl, List, [], ◌∷◌, length}
use Rattle.image.specs.Prelude.{sym, ap, arith}
use Rattle.image.specs.Bytes.{shared}
use Rattle.image.specs.Sound.{highest}
use Rattle.laws.specs.Encode.{bytes_of_all}
use Rattle.packed.specs.Form.Chunk.{groups, groups-flat, Marked, First, first_ends}
use Rattle.packed.specs.Form.Packed.{key_of, pair_weight, first, short_rows, leaf_from, leaf_level}
use Rattle.laws.specs.Page.{page, pair_entries, number_of}
use Rattle.packed.specs.Form.Tidy.{Page}
use Rattle.packed.specs.Form.Sweep.{own_page, own_pages}
use Rattle.packed.specs.Rows.Area.{row_at, rows_of, RowsFit, row-weight, row_adds, leaf_end}

pub rows-length : (k : ℕ) (area : List ℕ) (i : ℕ) → length (rows_of k area i) ≡ k
unfolding rows_of
rows-length zero area i = refl
rows-length (suc k) area i = ap suc (rows-length k area (suc i))

-- the key of row j, or FF behind the last row: the high pivot of what ends before row j
unfoldable pub high_at : ℕ → List ℕ → ℕ → List ℕ
high_at m area j = first key_of highest (rows_of (m - j) area j)

-- the leaves' pages from row i on
unfoldable pub leaf_pages_from : ℕ → List ℕ → ℕ → List ℕ → List ℕ → List Page
leaf_pages_from m area i lo nums = own_pages 1 (leaf_level nums lo (groups pair_weight (rows_of (m - i) area i)))

-- the page of the leaf that holds the rows from i up to j
unfoldable pub leaf_page : ℕ → List ℕ → ℕ → List ℕ → ℕ → List ℕ
leaf_page m area i lo j = page 0x0001 1 (bytes_of_all (pair_entries (short_rows (length (shared lo (high_at m area j))) (rows_of (j - i) area i))))

pub leaf-pages-done : (m : ℕ) (area : List ℕ) (i : ℕ) (lo nums : List ℕ) → m ≤ i → leaf_pages_from m area i lo nums ≡ []
unfolding leaf_pages_from rows_of groups leaf_level own_pages
leaf-pages-done m area i lo nums h = let z : m - i ≡ 0 = omega arith in rw z refl

-- each row counts as marked
rows-marked : (area : List ℕ) → Marked (λ t. 1) (row_at area) (λ k t. rows_of k area t)
unfolding rows_of
rows-marked area = record { none = λ t. refl; pass = λ k t z. absurd (omega arith); joins_it = λ k t o. refl }

module _ (m : ℕ) (area : List ℕ) (fit : RowsFit m area) (i : ℕ) (h : i < m) (w : ℕ) (e : pair_weight (row_at area i) ≡ w) (j : ℕ) (f : j ≡ leaf_end m area (i + 1) w) where
  pub leaf-ends : First (λ t. 1) (row_at area) (λ k t. rows_of k area t) pair_weight m i j
  leaf-ends =
      let a = row-weight m area fit i h in
      let b = fit.paths i h in
      let c = fit.values i h in
      first_ends (λ t. 1) (row_at area) (λ k t. rows_of k area t) (rows-marked area) pair_weight (row_adds area) m i h (omega arith) w e (omega arith)
      (λ t p q. (λ z. absurd (omega arith), λ o. sym (row-weight m area fit t q))) j f

  -- one leaf, and on
  pub leaf-pages-step : (lo : List ℕ) (num : ℕ) (nums : List ℕ)
      → leaf_pages_from m area i lo (num ∷ nums) ≡ record { number = num; bytes = leaf_page m area i lo j } ∷ leaf_pages_from m area j (high_at m area j) nums
  unfolding leaf_pages_from leaf_page high_at own_pages leaf_level leaf_from own_page number_of
  leaf-pages-step lo num nums =
      rw (leaf-ends.groups_are, groups-flat pair_weight (rows_of (m - j) area j), leaf-ends.all_are) refl
