-- The 1,024 bytes of a node with given entries, and that they read back.
use Rattle.std.specs.Prelude.{ℕ, suc, ◌≤◌, ◌≡◌, refl, List, ◌++◌, true, length}
use Rattle.image.specs.Prelude.{ap, ap₂, some}
use Rattle.image.specs.Entry.{Message, Entry}
use Rattle.image.specs.Table.{Row}
use Rattle.image.specs.Image.{Tree, leaf, interior, Forest, end, tree, node_bytes, node_entries, forest_of, leaf_of, interior_of, or_none, tree_at}
use Rattle.laws.specs.Encode.{bytes_of_all, all_allowed}
use Rattle.laws.specs.Page.{page, page-length as bytes-length, page-back, number_of, pair_entries, child_entries, branches_of, pairs-back, pairs-allowed}
use Rattle.laws.specs.Upkeep.Size.{message_entries, size_of, inside_back}

unfoldable pub page_of : ℕ → ℕ → List Entry → List ℕ
page_of kind level es = page kind level (bytes_of_all es)

module _ (kind level : ℕ) (es : List Entry) (fits : size_of es ≤ 1016) where
  pub page-length : length (page_of kind level es) ≡ 1024
  unfolding page_of size_of
  page-length = bytes-length kind level (bytes_of_all es) fits

  pub page-reads : all_allowed es ≡ true → node_entries kind level (page_of kind level es) ≡ some es
  unfolding page_of size_of
  page-reads a = page-back kind level es fits a

-- A LEAF whose page is written reads as that leaf
pub leaf-reads : (s : List ℕ) (i : ℕ) (rs : List Row) → node_bytes s i ≡ page_of 0x0001 1 (pair_entries rs) → size_of (pair_entries rs) ≤ 1016 → tree_at 1 s i ≡ leaf i rs
unfolding tree_at leaf_of or_none
leaf-reads s i rs e fits = rw (e, page-reads 0x0001 1 (pair_entries rs) fits (pairs-allowed rs), pairs-back rs)

-- AN INTERIOR NODE whose page is written reads as its children, where each of them reads
pub data Reads (under : ℕ → Tree) : Forest → Type 0 where
  none_left : Reads under end
  one_more : {s : List ℕ} {t : Tree} {f : Forest} → under (number_of t) ≡ t → Reads under f → Reads under (tree s t f)

pub forest-reads : (under : ℕ → Tree) {f : Forest} → Reads under f → forest_of under (branches_of f) ≡ f
unfolding forest_of branches_of
forest-reads under none_left = refl
forest-reads under (one_more {s} e r) = ap₂ (λ t f. tree s t f) e (forest-reads under r)

pub inner-reads : (l : ℕ) (s : List ℕ) (i : ℕ) (f : Forest) (ms : List Message)
    → node_bytes s i ≡ page_of 0x0002 (suc (suc l)) (child_entries f ++ message_entries ms) → size_of (child_entries f ++ message_entries ms) ≤ 1016
    → all_allowed (child_entries f ++ message_entries ms) ≡ true → Reads (λ j. tree_at (suc l) s j) f → tree_at (suc (suc l)) s i ≡ interior i f ms
unfolding tree_at interior_of or_none
inner-reads l s i f ms e fits a r =
    rw (e, page-reads 0x0002 (suc (suc l)) (child_entries f ++ message_entries ms) fits a, inside_back f ms)
    (ap (λ g. interior i g ms) (forest-reads (λ j. tree_at (suc l) s j) r))
