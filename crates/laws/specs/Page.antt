-- The 1,024 bytes of a node with given entries, and that they read back: what joins a written image to its tree, for the packed form, the
-- slices and the upkeep alike. Relies on Encode (entries as bytes).
use Rattle.std.specs.Prelude.{ℕ, zero, suc, ◌+◌, ◌-◌, ◌/◌, ◌%◌, ◌≤◌, ◌*◌, ◌≡◌, refl, List, [], ◌∷◌, ◌++◌, true, length, take, drop, replicate}
use Rattle.image.specs.Prelude.{ap, ◌∙◌, some, Option, none, arith, length-append, length-replicate, drop-append-add, take-append_seam, drop-append_seam, le-leb, eq-eqb}
use Rattle.image.specs.Bytes.{u16, zeros, u16_bytes}
use Rattle.image.specs.Entry.{Entry, pair, child, entries_of}
use Rattle.image.specs.Table.{Row}
use Rattle.image.specs.Image.{Tree, unread, leaf, interior, Forest, end, tree, Branch, laid_out, entry_bytes, node_entries, pair_then, pairs_of, branch_then, inside_of, tree_at, node_bytes, leaf_of, interior_of, Inside, or_none, header, header_laid_out}
use Rattle.laws.specs.Encode.{bytes_of_all, allowed, all_allowed, all_back}

-- a node: u16 length of the entries, kind, level, zero, the entries, zeros
unfoldable pub page : ℕ → ℕ → List ℕ → List ℕ
page kind level es = u16_bytes (length es) ++ (u16_bytes kind ++ (u16_bytes level ++ (0 ∷ 0 ∷ (es ++ replicate (1016 - length es) 0))))

pub page-length : (kind level : ℕ) (es : List ℕ) → length es ≤ 1016 → length (page kind level es) ≡ 1024
unfolding page
page-length kind level es h =
    let a = length-append es (replicate (1016 - length es) 0) in
    let b = length-replicate {A = ℕ} (1016 - length es) 0 in
    omega arith

pub zeros-replicate : (k : ℕ) → zeros (replicate k 0) ≡ true
unfolding zeros
zeros-replicate zero = refl
zeros-replicate (suc k) = zeros-replicate k

module _ (kind level : ℕ) (es : List ℕ) where
  pub page-0 : u16 (page kind level es) 0 ≡ length es
  unfolding u16 page
  page-0 = omega arith

  pub page-2 : u16 (page kind level es) 2 ≡ kind
  unfolding u16 page
  page-2 = omega arith

  pub page-4 : u16 (page kind level es) 4 ≡ level
  unfolding u16 page
  page-4 = omega arith

  page-6 : u16 (page kind level es) 6 ≡ 0
  unfolding u16 page
  page-6 = refl

  page-after : drop (8 + length es) (page kind level es) ≡ replicate (1016 - length es) 0
  unfolding page
  page-after =
      drop-append-add (length es % 256 ∷ length es / 256 ∷ kind % 256 ∷ kind / 256 ∷ level % 256 ∷ level / 256 ∷ 0 ∷ 0 ∷ [])
      (es ++ replicate (1016 - length es) 0) (length es)
      ∙ drop-append_seam es (replicate (1016 - length es) 0)

  pub page-laid : length es ≤ 1016 → laid_out kind level (page kind level es) ≡ true
  unfolding laid_out
  page-laid h =
      rw (
        page-0,
        page-2,
        page-4,
        page-6,
        page-after,
        le-leb (length es) 1016 h,
        eq-eqb kind kind refl,
        eq-eqb level level refl,
        zeros-replicate (1016 - length es),
      )

  pub page-entries : entry_bytes (page kind level es) ≡ es
  unfolding entry_bytes
  page-entries = rw page-0 (unfold page in take-append_seam es (replicate (1016 - length es) 0))

  -- a page is laid out, and its entries are those written
  pub page-reads : length es ≤ 1016 → node_entries kind level (page kind level es) ≡ entries_of es
  unfolding node_entries
  page-reads h = rw (page-laid h, page-entries)

pub page-back : (kind level : ℕ) (es : List Entry) → length (bytes_of_all es) ≤ 1016 → all_allowed es ≡ true
    → node_entries kind level (page kind level (bytes_of_all es)) ≡ some es
page-back kind level es h a = page-reads kind level (bytes_of_all es) h ∙ all_back es a

-- the entries of a leaf, and the children of an interior node
unfoldable pub number_of : Tree → ℕ
number_of (unread i) = i
number_of (leaf i rs) = i
number_of (interior i f ms) = i

unfoldable pub pair_entries : List Row → List Entry
pair_entries [] = []
pair_entries (r ∷ rs) = pair r.key r.value ∷ pair_entries rs

unfoldable pub child_entries : Forest → List Entry
child_entries end = []
child_entries (tree s t f) = child (number_of t) s ∷ child_entries f

unfoldable pub branches_of : Forest → List Branch
branches_of end = []
branches_of (tree s t f) = record { number = number_of t; pivot = s } ∷ branches_of f

pub pairs-back : (rs : List Row) → pairs_of (pair_entries rs) ≡ some rs
unfolding pairs_of pair_entries pair_then
pairs-back [] = refl
pairs-back (r ∷ rs) = rw (pairs-back rs)

pub pairs-allowed : (rs : List Row) → all_allowed (pair_entries rs) ≡ true
unfolding all_allowed allowed pair_entries
pairs-allowed [] = refl
pairs-allowed (r ∷ rs) = pairs-allowed rs

pub branches-back : (f : Forest) → inside_of (child_entries f) ≡ some (record { branches = branches_of f; messages = [] })
unfolding inside_of child_entries branch_then branches_of
branches-back end = refl
branches-back (tree s t f) = rw (branches-back f)

-- the children of a node that is read are read
pub number_read : (l : ℕ) (s : List ℕ) (i : ℕ) → number_of (tree_at l s i) ≡ i
unfolding tree_at number_of
number_read zero s i = refl
number_read (suc zero) s i = go (or_none pairs_of (node_entries 0x0001 1 (node_bytes s i)))
  where
    go : (o : Option (List Row)) → number_of (leaf_of i o) ≡ i
    go none = unfold leaf_of in refl
    go (some rs) = unfold leaf_of in refl
number_read (suc (suc l)) s i = go (or_none inside_of (node_entries 0x0002 (suc (suc l)) (node_bytes s i)))
  where
    go : (o : Option Inside) → number_of (interior_of (λ j. tree_at (suc l) s j) i o) ≡ i
    go none = unfold interior_of in refl
    go (some x) = unfold interior_of in refl

-- node 0
unfoldable pub head_page : ℕ → ℕ → ℕ → ℕ → List ℕ
head_page n root levels live = 8 ∷ 0 ∷ 0 ∷ 1 ∷ (u16_bytes n ++ (u16_bytes root ++ (u16_bytes levels ++ (u16_bytes live ++ replicate 1012 0))))

pub head-header : (n root levels live : ℕ) → header (head_page n root levels live) ≡ record { count = n; root = root; levels = levels; live = live }
unfolding header u16 head_page
head-header n root levels live =
    let a : n % 256 + 256 * (n / 256) ≡ n = omega arith in
    let b : root % 256 + 256 * (root / 256) ≡ root = omega arith in
    let c : levels % 256 + 256 * (levels / 256) ≡ levels = omega arith in
    let d : live % 256 + 256 * (live / 256) ≡ live = omega arith in
    λ i. record { count = a i; root = b i; levels = c i; live = d i }

pub head-laid : (n root levels live : ℕ) → header_laid_out (head_page n root levels live) ≡ true
unfolding header_laid_out u16 head_page
head-laid n root levels live = zeros-replicate 1012

pub head-length : (n root levels live : ℕ) → length (head_page n root levels live) ≡ 1024
unfolding head_page
head-length n root levels live = refl

-- k zeros: a page before anything is written in it
unfoldable pub zeros_of : ℕ → List ℕ
zeros_of k = replicate k 0

sub-zero : (m : ℕ) → m ≡ m - 0
sub-zero m = omega arith

zero-sub : (k : ℕ) → 0 ≡ 0 - suc k
zero-sub k = omega arith

suc-sub : (m k : ℕ) → m - k ≡ suc m - suc k
suc-sub m k = omega arith

pub drop-zeros : (k m : ℕ) → drop k (zeros_of m) ≡ zeros_of (m - k)
unfolding zeros_of
drop-zeros zero m = ap (λ i. replicate i 0) (sub-zero m)
drop-zeros (suc k) zero = ap (λ i. replicate i 0) (zero-sub k)
drop-zeros (suc k) (suc m) = drop-zeros k m ∙ ap (λ i. replicate i 0) (suc-sub m k)

pub take-zeros : (k m : ℕ) → k ≤ m → take k (zeros_of m) ≡ zeros_of k
unfolding zeros_of
take-zeros zero m h = refl
take-zeros (suc k) zero h = absurd (omega arith)
take-zeros (suc k) (suc m) h = ap (λ l. 0 ∷ l) (take-zeros k m (omega arith))
