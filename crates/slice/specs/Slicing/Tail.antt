-- The middle of a move, one node a level, as one tree; and the empty trees that close the gap.
use Rattle.std.specs.Prelude.{ℕ, zero, suc, ◌-◌, ◌≤◌, ◌≡◌, refl, List, [], true, false, length}
use Rattle.image.specs.Prelude.{sym, ◌∙◌, append-nil, arith, le-leb}
use Rattle.image.specs.Bytes.{before, begins, shared}
use Rattle.image.specs.Entry.{pivot_limit}
use Rattle.image.specs.Table.{every_key, rising, under_prefix}
use Rattle.image.specs.Image.{Tree, unread, leaf, interior, Forest, end, tree}
use Rattle.image.specs.Meaning.{high_of, rows, rows_in}
use Rattle.image.specs.Sound.{sound_tree, values_fit}
use Rattle.octets.specs.Order.{and_left, not_so, before-irrefl}
use Rattle.laws.specs.Rising.{both}
use Rattle.laws.specs.Filter.{keep, since}
use Rattle.laws.specs.Pieces.{still, levelled, Good, Run, done, more, joined, node, node-good, node-rows}
use Rattle.slice.specs.Slicing.Slice.{right_of, packed, edge_in, rest_in, after}
use Rattle.slice.specs.Slicing.SliceLaws.{cut-tree}
use Rattle.slice.specs.Slicing.SliceNumbers.{met, met_in, met-node, spent}
use Rattle.slice.specs.Slicing.SliceFits.{fits, fits_in, size_at, short_at, pairs_size, count, node-fits, over-count, cut_fits}

-- the first of some pieces
unfoldable pub first_of : Forest → Tree
first_of end = unread 0
first_of (tree s t f) = t

unfoldable pub tail_of : (ℕ → ℕ) → Tree → List ℕ → List ℕ → List ℕ → ℕ → Tree
tail_of fresh t lo hi k at = first_of (right_of fresh false t lo hi k at)

-- pieces of which there is at most one, over a range that is not empty
pub record Single (h : ℕ) (f : Forest) (a b : List ℕ) : Type 0 where
  pub good : Good h (first_of f) a b
  pub the_rows : rows (first_of f) a b ≡ rows_in f [] b
  pub the_numbers : (j : ℕ) → met j (first_of f) ≡ met_in j f

single : {h : ℕ} {f : Forest} {a b : List ℕ} → Run h f a b → before a b ≡ true → count f ≤ 1 → Single h f a b
unfolding first_of count rows_in high_of met_in
single (done {a}) lt c = not_so lt (before-irrefl a)
single (more x g done) lt c = record { good = g; the_rows = sym (append-nil _); the_numbers = λ j. omega arith }
single (more x g (more y k r)) lt c = absurd (omega arith)

first_fits : (f : Forest) → fits_in f ≡ true → fits (first_of f) ≡ true
unfolding fits_in first_of fits
first_fits end e = refl
first_fits (tree s t f) e = and_left (fits t) _ e

narrow-count : (fresh : ℕ → ℕ) (t : Tree) (lo hi k : List ℕ) (at : ℕ) → count (right_of fresh false t lo hi k at) ≤ 1
unfolding right_of packed count
narrow-count fresh (unread i) lo hi k at = omega arith
narrow-count fresh (leaf i rs) lo hi k at = omega arith
narrow-count fresh (interior i f ms) lo hi k at =
    over-count (fresh at) k hi (joined (edge_in fresh false f (shared lo hi) hi k (after false at)) (rest_in f (shared lo hi) hi k))

module _ (fresh : ℕ → ℕ) (t : Tree) (h : ℕ) (lo hi k : List ℕ) (at : ℕ) (good : Good h t lo hi) (a : before lo k ≡ true) (b : before k hi ≡ true) where
  tail-single : Single h (right_of fresh false t lo hi k at) k hi
  tail-single = single (cut-tree fresh false t h lo hi k at at good a b).high b (narrow-count fresh t lo hi k at)

  pub tail-good : Good h (tail_of fresh t lo hi k at) k hi
  unfolding tail_of
  tail-good = tail-single.good

  pub tail-rows : rows (tail_of fresh t lo hi k at) k hi ≡ keep (since k) (rows t lo hi)
  unfolding tail_of
  tail-rows = tail-single.the_rows ∙ (cut-tree fresh false t h lo hi k at at good a b).high_rows

  pub tail-met : (j : ℕ) → met j (tail_of fresh t lo hi k at) ≡ met_in j (right_of fresh false t lo hi k at)
  unfolding tail_of
  tail-met j = tail-single.the_numbers j

  pub tail-fits : length k ≤ pivot_limit → begins k hi ≡ true → fits t ≡ true → fits (tail_of fresh t lo hi k at) ≡ true
  unfolding tail_of
  tail-fits n v e = first_fits (right_of fresh false t lo hi k at) (cut_fits fresh false t h lo hi k at at good a b n v e).1

-- A chain of nodes, one a level, that holds nothing.
unfoldable pub gap_of : (ℕ → ℕ) → ℕ → List ℕ → List ℕ → ℕ → Tree
gap_of fresh zero lo hi at = unread 0
gap_of fresh (suc zero) lo hi at = leaf (fresh at) []
gap_of fresh (suc (suc h)) lo hi at = node (fresh at) lo hi (tree lo (gap_of fresh (suc h) lo hi (suc at)) end)

module _ (fresh : ℕ → ℕ) (lo hi : List ℕ) (lt : before lo hi ≡ true) where
  pub gap-good : (h at : ℕ) → Good (suc h) (gap_of fresh (suc h) lo hi at) lo hi
  unfolding gap_of sound_tree still levelled every_key under_prefix rising values_fit
  gap-good zero at = record { sound = refl; holds_no_message = refl; level = refl }
  gap-good (suc h) at = node-good (fresh at) lt (more lt (gap-good h (suc at)) done)

  pub gap-rows : (h at : ℕ) → rows (gap_of fresh (suc h) lo hi at) lo hi ≡ []
  unfolding gap_of rows under_prefix rows_in high_of
  gap-rows zero at = refl
  gap-rows (suc h) at = node-rows (fresh at) (more lt (gap-good h (suc at)) done) ∙ append-nil _ ∙ gap-rows h (suc at)

  pub gap-fits : (h at : ℕ) → length lo ≤ pivot_limit → fits (gap_of fresh (suc h) lo hi at) ≡ true
  unfolding gap_of fits pairs_size fits_in size_at short_at
  gap-fits zero at n = refl
  gap-fits (suc h) at n =
      node-fits (fresh at) lo hi (tree lo (gap_of fresh (suc h) lo hi (suc at)) end) (omega arith) (both (le-leb (length lo - length (shared lo hi)) 65 (omega arith)) refl)
      (both (gap-fits h (suc at) n) refl)

  pub gap-met : (j h at : ℕ) → met j (gap_of fresh (suc h) lo hi at) ≡ spent fresh j (suc h) at
  unfolding gap_of met met_in spent
  gap-met j zero at = omega arith
  gap-met j (suc h) at = met-node j (fresh at) lo hi (tree lo (gap_of fresh (suc h) lo hi (suc at)) end) ∙ rw (gap-met j h (suc at)) (omega arith)
