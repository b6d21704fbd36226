-- What code does: at each node the pivots and the cut are what is left after the lifted bytes, so that the node itself lifts nothing.
use Rattle.std.specs.Prelude.{ℕ, suc, ◌≡◌, refl, List, [], ◌∷◌, ◌++◌, Bool, true, length, drop}
use Rattle.image.specs.Prelude.{sym, ap, ◌∙◌}
use Rattle.image.specs.Bytes.{before, shared}
use Rattle.image.specs.Table.{Row, under_prefix}
use Rattle.image.specs.Image.{Tree, leaf, interior, Forest, end, tree}
use Rattle.image.specs.Entry.{Message}
use Rattle.octets.specs.Order.{before-asym, between-begins, begins-split}
use Rattle.laws.specs.Filter.{keep, up_to, since, lower_rows}
use Rattle.laws.specs.Pieces.{raise, node}
use Rattle.slice.specs.Slicing.Slice.{rest_in, packed, after, left_of, left_in, right_of, edge_in}
use Rattle.octets.specs.Beginnings.{shared-left, shared-right}
use Rattle.slice.specs.Slicing.SliceShift.{left-shift, right-shift}

-- the lifted bytes and what is left
module _ (lo hi : List ℕ) where
  pub split-low : shared lo hi ++ drop (length (shared lo hi)) lo ≡ lo
  split-low = begins-split (shared lo hi) lo (shared-left lo hi)

  pub split-high : shared lo hi ++ drop (length (shared lo hi)) hi ≡ hi
  split-high = begins-split (shared lo hi) hi (shared-right lo hi)

  pub split-cut : (k : List ℕ) → before lo k ≡ true → before k hi ≡ true → shared lo hi ++ drop (length (shared lo hi)) k ≡ k
  split-cut k a b = begins-split (shared lo hi) k (between-begins lo hi k (before-asym lo k a) b)

  module _ (fresh : ℕ → ℕ) (k : List ℕ) (a : before lo k ≡ true) (b : before k hi ≡ true) where
    pub left-strip : (t : Tree) (at : ℕ)
        → left_of fresh t lo hi k at ≡ left_of fresh t (drop (length (shared lo hi)) lo) (drop (length (shared lo hi)) hi) (drop (length (shared lo hi)) k) at
    left-strip t at =
        let d : ℕ = length (shared lo hi) in
        (λ i. left_of fresh t (sym split-low i) (sym split-high i) (sym (split-cut k a b) i) at)
        ∙ left-shift (shared lo hi) fresh t (drop d lo) (drop d hi) (drop d k) at

    pub right-strip : (w : Bool) (t : Tree) (at : ℕ)
        → right_of fresh w t lo hi k at
        ≡ raise (shared lo hi) (right_of fresh w t (drop (length (shared lo hi)) lo) (drop (length (shared lo hi)) hi) (drop (length (shared lo hi)) k) at)
    right-strip w t at =
        let d : ℕ = length (shared lo hi) in
        (λ i. right_of fresh w t (sym split-low i) (sym split-high i) (sym (split-cut k a b) i) at)
        ∙ right-shift (shared lo hi) fresh w t (drop d lo) (drop d hi) (drop d k) at

pub under_none : (t : List Row) → under_prefix [] t ≡ t
unfolding under_prefix
under_none [] = refl
under_none (r ∷ t) = ap (λ u. r ∷ u) (under_none t)

-- A leaf and a node that lift nothing: suffixes are compared with the cut as they are stored, and lose what the part lifts.
pub left-leaf-bare : (fresh : ℕ → ℕ) (i : ℕ) (rs : List Row) (lo hi k : List ℕ) (at : ℕ) → shared lo hi ≡ []
    → left_of fresh (leaf i rs) lo hi k at ≡ leaf (fresh at) (lower_rows (shared lo k) (keep (up_to k) rs))
unfolding left_of
left-leaf-bare fresh i rs lo hi k at e = rw (e, under_none rs)

pub left-node-bare : (fresh : ℕ → ℕ) (i : ℕ) (f : Forest) (ms : List Message) (lo hi k : List ℕ) (at : ℕ) → shared lo hi ≡ []
    → left_of fresh (interior i f ms) lo hi k at ≡ node (fresh at) lo k (left_in fresh f [] hi k (suc at))
unfolding left_of
left-node-bare fresh i f ms lo hi k at e = rw e

pub right-leaf-bare : (fresh : ℕ → ℕ) (w : Bool) (i : ℕ) (rs : List Row) (lo hi k : List ℕ) (at : ℕ) → shared lo hi ≡ []
    → right_of fresh w (leaf i rs) lo hi k at ≡ tree k (leaf (fresh at) (lower_rows (shared k hi) (keep (since k) rs))) end
unfolding right_of
right-leaf-bare fresh w i rs lo hi k at e = rw (e, under_none rs)

pub right-node-bare : (fresh : ℕ → ℕ) (w : Bool) (i : ℕ) (f : Forest) (ms : List Message) (lo hi k : List ℕ) (at : ℕ) → shared lo hi ≡ []
    → right_of fresh w (interior i f ms) lo hi k at ≡ packed w (fresh at) (fresh (suc at)) k hi (edge_in fresh w f [] hi k (after w at)) (rest_in f [] hi k)
unfolding right_of
right-node-bare fresh w i f ms lo hi k at e = rw e
