-- The bytes of a tree's nodes, and that they read back.
use Rattle.std.specs.Prelude.{ℕ, zero, suc, ◌≤◌, ◌≡◌, refl, List, [], ◌∷◌, ◌++◌, true, length}
use Rattle.image.specs.Prelude.{sym, ap, ap₂, subst, ◌∙◌, arith, length-append, le-leb}
use Rattle.image.specs.Table.{Row}
use Rattle.image.specs.Image.{Tree, unread, leaf, interior, Forest, end, tree, node_bytes, forest_of, leaf_of, interior_of, or_none, tree_at}
use Rattle.laws.specs.Encode.{rest_of, bytes_of, bytes_of_all, allowed, all_allowed}
use Rattle.laws.specs.Rising.{both}
use Rattle.laws.specs.Page.{page, page-back, number_of, pair_entries, child_entries, branches_of, pairs-back, pairs-allowed, branches-back}
use Rattle.packed.specs.Form.Chunk.{total}
use Rattle.packed.specs.Form.Packed.{pair_weight}
use Rattle.packed.specs.Form.Neat.{pivot_bytes, Neat, NeatIn}

pub pairs-length : (rs : List Row) → length (bytes_of_all (pair_entries rs)) ≡ total pair_weight rs
unfolding bytes_of_all bytes_of rest_of pair_entries total
pairs-length [] = refl
pairs-length (r ∷ rs) =
    let a = length-append (r.key ++ r.value) (bytes_of_all (pair_entries rs)) in
    let b = length-append r.key r.value in
    let c = pairs-length rs in
    omega arith

branches-allowed : (f : Forest) (l : ℕ) → NeatIn f l → all_allowed (child_entries f) ≡ true
unfolding all_allowed allowed child_entries NeatIn
branches-allowed end l h = refl
branches-allowed (tree s t f) l h = both (le-leb (length s) 65 h.0) (branches-allowed f l h.2)

pub branches-length : (f : Forest) → length (bytes_of_all (child_entries f)) ≡ pivot_bytes f
unfolding bytes_of_all bytes_of rest_of child_entries pivot_bytes
branches-length end = refl
branches-length (tree s t f) = let a = length-append s (bytes_of_all (child_entries f)) in let c = branches-length f in omega arith

-- the image holds the pages of this tree
unfoldable mutual
  pub Written : Tree → ℕ → List ℕ → Type 0
  Written (unread i) l image = ⊥
  Written (leaf i rs) l image = node_bytes image i ≡ page 0x0001 l (bytes_of_all (pair_entries rs))
  Written (interior i f ms) zero image = ⊥
  Written (interior i f ms) (suc l) image = (node_bytes image i ≡ page 0x0002 (suc l) (bytes_of_all (child_entries f))) × WrittenIn f l image

  pub WrittenIn : Forest → ℕ → List ℕ → Type 0
  WrittenIn end l image = Unit {0}
  WrittenIn (tree s t f) l image = Written t l image × WrittenIn f l image

leaf-back : (i : ℕ) (rs : List Row) (image : List ℕ) → total pair_weight rs ≤ 1016 → node_bytes image i ≡ page 0x0001 1 (bytes_of_all (pair_entries rs))
    → tree_at 1 image i ≡ leaf i rs
unfolding tree_at leaf_of or_none
leaf-back i rs image h e =
    rw (e, page-back 0x0001 1 (pair_entries rs) (rw (pairs-length rs) h) (pairs-allowed rs), pairs-back rs)

leaf-at : (i : ℕ) (rs : List Row) (l : ℕ) (image : List ℕ) → l ≡ 1 → total pair_weight rs ≤ 1016
    → node_bytes image i ≡ page 0x0001 l (bytes_of_all (pair_entries rs)) → tree_at l image i ≡ leaf i rs
leaf-at i rs l image e h =
    subst (λ k. node_bytes image i ≡ page 0x0001 k (bytes_of_all (pair_entries rs)) → tree_at k image i ≡ leaf i rs) (sym e) (leaf-back i rs image h)

interior-back : (i : ℕ) (f : Forest) (l : ℕ) (image : List ℕ) → pivot_bytes f ≤ 1016 → NeatIn f (suc l)
    → node_bytes image i ≡ page 0x0002 (suc (suc l)) (bytes_of_all (child_entries f)) → forest_of (λ j. tree_at (suc l) image j) (branches_of f) ≡ f
    → tree_at (suc (suc l)) image i ≡ interior i f []
unfolding tree_at interior_of or_none
interior-back i f l image h n e k =
    rw (e, page-back 0x0002 (suc (suc l)) (child_entries f) (rw (branches-length f) h) (branches-allowed f (suc l) n), branches-back f) (ap (λ g. interior i g []) k)

mutual
  unfolding Written WrittenIn Neat NeatIn number_of forest_of branches_of

  pub reads-back : (t : Tree) (l : ℕ) (image : List ℕ) → Neat t l → Written t l image → tree_at l image (number_of t) ≡ t
  reads-back (unread i) l image h w = absurd h
  reads-back (leaf i rs) l image h w = leaf-at i rs l image h.0 h.1 w
  reads-back (interior i f ms) zero image h w = absurd h
  reads-back (interior i f ms) (suc zero) image h w = absurd (let q = h.0 in omega arith)
  reads-back (interior i f ms) (suc (suc l)) image h w =
      interior-back i f l image h.2 h.3 w.0 (reads-back-in f (suc l) image h.3 w.1) ∙ ap (interior i f) (sym h.1)

  pub reads-back-in : (f : Forest) (l : ℕ) (image : List ℕ) → NeatIn f l → WrittenIn f l image → forest_of (λ j. tree_at l image j) (branches_of f) ≡ f
  reads-back-in end l image h w = refl
  reads-back-in (tree s t f) l image h w = ap₂ (λ u g. tree s u g) (reads-back t l image h.1 w.0) (reads-back-in f l image h.2 w.1)
