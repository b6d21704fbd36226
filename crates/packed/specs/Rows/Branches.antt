-- The level that the marks of an area say, and one node of the level above.
use Rattle.std.specs.Prelude.{ℕ, zero, suc, ◌+◌, ◌*◌, ◌-◌, ◌≤◌, ◌<◌, ◌≡◌, refl, List, [], ◌∷◌, cond, length, get_or, eqb}
use Rattle.image.specs.Prelude.{sym, ap, ◌∙◌, arith, eq-eqb, ne_eqb}
use Rattle.image.specs.Bytes.{shared, u16}
use Rattle.image.specs.Image.{Branch}
use Rattle.image.specs.Sound.{highest}
use Rattle.laws.specs.Encode.{bytes_of_all}
use Rattle.packed.specs.Form.Chunk.{groups, groups-flat, end_of, Marked, First, first_ends}
use Rattle.packed.specs.Form.Packed.{first}
use Rattle.laws.specs.Page.{page}
use Rattle.packed.specs.Form.Tidy.{Page}
use Rattle.packed.specs.Form.Marks.{pivot_of, branch_weight, first_branches, branch_entries, node_pages}
use Rattle.packed.specs.Rows.Area.{row_at, RowsFit, key-length}

unfoldable pub mark_at : List ℕ → ℕ → ℕ
mark_at area i = u16 area (i * 128 + 2)

-- the low pivot of what starts at row i
unfoldable pub low_of_row : List ℕ → ℕ → List ℕ
low_of_row area zero = []
low_of_row area (suc i) = (row_at area (suc i)).key

abbrev pub branch_at : List ℕ → ℕ → Branch
branch_at area i = record { number = mark_at area i; pivot = low_of_row area i }

-- the marked ones of k rows from row i on
unfoldable pub branches_of : ℕ → List ℕ → ℕ → List Branch
branches_of zero area i = []
branches_of (suc k) area i = cond (eqb (mark_at area i) 0) (branches_of k area (suc i)) (branch_at area i ∷ branches_of k area (suc i))

pub branches-pass : (k : ℕ) (area : List ℕ) (i : ℕ) → mark_at area i ≡ 0 → branches_of (suc k) area i ≡ branches_of k area (suc i)
unfolding branches_of
branches-pass k area i h = rw (eq-eqb (mark_at area i) 0 h)

pub branches-take : (k : ℕ) (area : List ℕ) (i : ℕ) → 1 ≤ mark_at area i → branches_of (suc k) area i ≡ branch_at area i ∷ branches_of k area (suc i)
unfolding branches_of
branches-take k area i h = rw (ne_eqb (mark_at area i) 0 (λ q. omega arith))

-- behind the first row the low pivot is the row's path
pub low-later : (area : List ℕ) (i : ℕ) → (i ≡ 0 → ⊥) → low_of_row area i ≡ (row_at area i).key
unfolding low_of_row
low-later area zero n = absurd (n refl)
low-later area (suc i) n = refl

pub low-first : (area : List ℕ) (i : ℕ) → i ≡ 0 → low_of_row area i ≡ []
unfolding low_of_row
low-first area zero e = refl
low-first area (suc i) e = absurd (omega arith)

pub low-length : (m : ℕ) (area : List ℕ) → RowsFit m area → (i : ℕ) → (i ≡ 0 → ⊥) → i < m → length (low_of_row area i) ≡ get_or area (i * 128) 0
low-length m area f i n h = ap length (low-later area i n) ∙ key-length m area f i h

low-short : (m : ℕ) (area : List ℕ) → RowsFit m area → (i : ℕ) → i < m → length (low_of_row area i) ≤ 64
low-short m area f zero h = unfold low_of_row in omega arith
low-short m area f (suc i) h = let a = low-length m area f (suc i) (λ z. omega arith) h in let b = f.paths (suc i) h in omega arith

-- what row i, not the first, adds to a node: nothing if it has no mark
unfoldable pub weight_at : List ℕ → ℕ → ℕ
weight_at area i = cond (eqb (mark_at area i) 0) 0 (6 + get_or area (i * 128) 0)

pub weight-none : (area : List ℕ) (i : ℕ) → mark_at area i ≡ 0 → weight_at area i ≡ 0
unfolding weight_at
weight-none area i h = rw (eq-eqb (mark_at area i) 0 h)

pub weight-some : (area : List ℕ) (i : ℕ) → (mark_at area i ≡ 0 → ⊥) → weight_at area i ≡ 6 + get_or area (i * 128) 0
unfolding weight_at
weight-some area i h = rw (ne_eqb (mark_at area i) 0 h)

-- where a node ends that has `used` bytes in use and may go on at row i, which is not the first
abbrev pub node_end : ℕ → List ℕ → ℕ → ℕ → ℕ
node_end m area i used = end_of (weight_at area) m i used

-- the pages of the level above, and its nodes, from row i on
unfoldable pub node_pages_from : ℕ → ℕ → List ℕ → ℕ → List ℕ → List Page
node_pages_from l m area i nums = node_pages l nums (groups branch_weight (branches_of (m - i) area i))

unfoldable pub above_from : ℕ → List ℕ → ℕ → List ℕ → List Branch
above_from m area i nums = first_branches pivot_of nums (groups branch_weight (branches_of (m - i) area i))

-- the high pivot of what ends before row j
unfoldable pub high_of_row : ℕ → List ℕ → ℕ → List ℕ
high_of_row m area j = first pivot_of highest (branches_of (m - j) area j)

unfoldable pub node_page : ℕ → ℕ → List ℕ → ℕ → ℕ → List ℕ
node_page l m area i j = page 0x0002 l (bytes_of_all (branch_entries (length (shared (low_of_row area i) (high_of_row m area j))) (branches_of (j - i) area i)))

pub above-done : (m : ℕ) (area : List ℕ) (i : ℕ) (nums : List ℕ) → m ≤ i → above_from m area i nums ≡ []
unfolding above_from branches_of groups first_branches
above-done m area i nums h = let z : m - i ≡ 0 = omega arith in rw z refl

pub node-pages-done : (l m : ℕ) (area : List ℕ) (i : ℕ) (nums : List ℕ) → m ≤ i → node_pages_from l m area i nums ≡ []
unfolding node_pages_from branches_of groups node_pages
node-pages-done l m area i nums h = let z : m - i ≡ 0 = omega arith in rw z refl

branches-marked : (area : List ℕ) → Marked (mark_at area) (branch_at area) (λ k t. branches_of k area t)
branches-marked area = record { none = λ t. unfold branches_of in refl; pass = λ k t. branches-pass k area t; joins_it = λ k t. branches-take k area t }

module _ (m : ℕ) (area : List ℕ) (fit : RowsFit m area) (i : ℕ) (h : i < m) (o : 1 ≤ mark_at area i) (w : ℕ) (e : 6 + length (low_of_row area i) ≡ w)
    (j : ℕ) (f : j ≡ node_end m area (i + 1) w) where
  pub node-ends : First (mark_at area) (branch_at area) (λ k t. branches_of k area t) branch_weight m i j
  node-ends =
      let a = low-short m area fit i h in
      first_ends (mark_at area) (branch_at area) (λ k t. branches_of k area t) (branches-marked area) branch_weight (weight_at area) m i h o w e (omega arith)
      (λ t p q. (weight-none area t, λ v. weight-some area t (λ z. omega arith) ∙ ap (λ x. 6 + x) (sym (low-length m area fit t (λ z. omega arith) q)))) j f

  -- one node, and on
  pub above_step : (num : ℕ) (nums : List ℕ) → above_from m area i (num ∷ nums) ≡ record { number = num; pivot = low_of_row area i } ∷ above_from m area j nums
  unfolding above_from first_branches
  above_step num nums = rw node-ends.groups_are refl

  pub node-pages-step : (l num : ℕ) (nums : List ℕ)
      → node_pages_from l m area i (num ∷ nums) ≡ record { number = num; bytes = node_page l m area i j } ∷ node_pages_from l m area j nums
  unfolding node_pages_from node_page high_of_row node_pages
  node-pages-step l num nums = rw (node-ends.groups_are, groups-flat branch_weight (branches_of (m - j) area j), node-ends.all_are) refl
