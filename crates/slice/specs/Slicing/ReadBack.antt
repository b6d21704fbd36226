-- A node's page, and that it reads back: what joins a written image to the trees of the slices.
use Rattle.std.specs.Prelude.{ℕ, suc, ◌≤◌, ◌≡◌, refl, List, [], ◌∷◌, ◌++◌, true, length, leb}
use Rattle.image.specs.Prelude.{ap, ap₂, arith, length-append}
use Rattle.octets.specs.Order.{and_left, and_right}
use Rattle.laws.specs.Rising.{both}
use Rattle.image.specs.Table.{Row}
use Rattle.image.specs.Image.{Tree, leaf, interior, Forest, end, tree, node_bytes, forest_of, leaf_of, interior_of, or_none, tree_at}
use Rattle.laws.specs.Encode.{rest_of, bytes_of, bytes_of_all, allowed, all_allowed, all_back}
use Rattle.laws.specs.Page.{page, page-reads, number_of, pair_entries, child_entries, branches_of, pairs-back, pairs-allowed, branches-back}
use Rattle.slice.specs.Slicing.SliceFits.{pairs_size, branches_size, short_in}

branches-allowed : (f : Forest) → short_in f ≡ true → all_allowed (child_entries f) ≡ true
unfolding all_allowed child_entries allowed short_in
branches-allowed end e = refl
branches-allowed (tree s t f) e = both (and_left (leb (length s) 65) _ e) (branches-allowed f (and_right (leb (length s) 65) _ e))

-- the sizes that slices keep are the bytes written
pub pairs-size : (rs : List Row) → length (bytes_of_all (pair_entries rs)) ≡ pairs_size rs
unfolding bytes_of_all pair_entries pairs_size bytes_of rest_of
pairs-size [] = refl
pairs-size (r ∷ rs) =
    let s : List ℕ = r.key in
    let v : List ℕ = r.value in
    rw (length-append (s ++ v) (bytes_of_all (pair_entries rs)), length-append s v, pairs-size rs) (omega arith)

pub branches-size : (f : Forest) → length (bytes_of_all (child_entries f)) ≡ branches_size f
unfolding bytes_of_all child_entries branches_size bytes_of rest_of
branches-size end = refl
branches-size (tree s t f) = rw (length-append s (bytes_of_all (child_entries f)), branches-size f) (omega arith)

-- A leaf's page reads as the leaf.
pub leaf-read : (image : List ℕ) (i : ℕ) (rs : List Row) → node_bytes image i ≡ page 0x0001 1 (bytes_of_all (pair_entries rs)) → pairs_size rs ≤ 1016
    → tree_at 1 image i ≡ leaf i rs
unfolding tree_at or_none leaf_of
leaf-read image i rs e h =
    rw (e, page-reads 0x0001 1 (bytes_of_all (pair_entries rs)) (omega (arith, pairs-size rs)), all_back (pair_entries rs) (pairs-allowed rs), pairs-back rs)

-- An interior node's page reads as the node over what its children read as.
unfoldable pub ReadsIn : (ℕ → Tree) → Forest → Type 0
ReadsIn under end = Unit {0}
ReadsIn under (tree s t f) = (under (number_of t) ≡ t) × ReadsIn under f

forest-read : (under : ℕ → Tree) (f : Forest) → ReadsIn under f → forest_of under (branches_of f) ≡ f
unfolding forest_of branches_of ReadsIn
forest-read under end e = refl
forest-read under (tree s t f) e = ap₂ (λ x y. tree s x y) e.0 (forest-read under f e.1)

pub node-read : (image : List ℕ) (l i : ℕ) (f : Forest) → node_bytes image i ≡ page 0x0002 (suc (suc l)) (bytes_of_all (child_entries f)) → branches_size f ≤ 1016
    → short_in f ≡ true → ReadsIn (λ j. tree_at (suc l) image j) f → tree_at (suc (suc l)) image i ≡ interior i f []
unfolding tree_at or_none interior_of
node-read image l i f e h s r =
    rw (
      e,
      page-reads 0x0002 (suc (suc l)) (bytes_of_all (child_entries f)) (omega (arith, branches-size f)),
      all_back (child_entries f) (branches-allowed f s),
      branches-back f,
    )
    (ap (λ g. interior i g []) (forest-read (λ j. tree_at (suc l) image j) f r))
