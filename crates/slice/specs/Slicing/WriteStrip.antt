-- The written slices, too, do not depend on the lifted bytes: the contracts of the code that slices are equations with these.
use Rattle.std.specs.Prelude.{ℕ, zero, suc, ◌≡◌, refl, List, [], ◌++◌, Bool, true, false, cond, length, drop}
use Rattle.image.specs.Prelude.{sym, ap, ap₂, ◌∙◌, append_assoc}
use Rattle.image.specs.Bytes.{before, shared}
use Rattle.image.specs.Table.{Row}
use Rattle.image.specs.Image.{Tree, unread, leaf, interior, Forest, end, tree}
use Rattle.image.specs.Meaning.{high_of}
use Rattle.octets.specs.Order.{shared-append}
use Rattle.laws.specs.Shift.{high-shift}
use Rattle.laws.specs.WriteNode.{write_node}
use Rattle.laws.specs.Pieces.{joined, raise}
use Rattle.slice.specs.Slicing.Slice.{rest_in, after, left_of, right_of, edge_in}
use Rattle.slice.specs.Slicing.SliceShift.{test-high, test_low, node-shift, high-raised, joined-raise, left-shift, rest-shift, edge-shift, right-shift}
use Rattle.slice.specs.Slicing.Tail.{first_of}
use Rattle.slice.specs.Slicing.SliceStrip.{split-low, split-high, split-cut}
use Rattle.slice.specs.Slicing.SliceWrite.{page_of, left_write, left_write_in}
use Rattle.slice.specs.Slicing.RightWrite.{over_write, packed_write, right_write, edge_write}

cond-path : {A : Type 0} (x : Bool) (a b a' b' : A) → a ≡ a' → b ≡ b' → cond x a b ≡ cond x a' b'
cond-path true a b a' b' p q = p
cond-path false a b a' b' p q = q

module _ (prefix : List ℕ) (fresh : ℕ → ℕ) where
  left-page : (t : Tree) (h : ℕ) (lo hi k : List ℕ) (at : ℕ) → page_of h (left_of fresh t (prefix ++ lo) (prefix ++ hi) (prefix ++ k) at) ≡ page_of h (left_of fresh t lo hi k at)
  left-page t h lo hi k at = ap (page_of h) (left-shift prefix fresh t lo hi k at)

  mutual
    unfolding left_write left_write_in

    pub left-write-shift : (t : Tree) (h : ℕ) (lo hi k : List ℕ) (at : ℕ) (s : List ℕ) → left_write fresh t h (prefix ++ lo) (prefix ++ hi) (prefix ++ k) at s ≡ left_write fresh t h lo hi k at s
    left-write-shift (unread i) h lo hi k at s = refl
    left-write-shift (leaf i rs) h lo hi k at s = ap (write_node s (fresh at)) (left-page (leaf i rs) h lo hi k at)
    left-write-shift (interior i f ms) zero lo hi k at s = refl
    left-write-shift (interior i f ms) (suc h) lo hi k at s =
        ap₂ (λ x y. write_node x (fresh at) y)
        (ap (λ x. left_write_in fresh f h x (prefix ++ hi) (prefix ++ k) (suc at) s) (shared-append prefix lo hi) ∙ left-write-shift-in f h (shared lo hi) hi k (suc at) s)
        (left-page (interior i f ms) (suc h) lo hi k at)

    pub left-write-shift-in : (f : Forest) (h : ℕ) (l hi k : List ℕ) (at : ℕ) (s : List ℕ) → left_write_in fresh f h (prefix ++ l) (prefix ++ hi) (prefix ++ k) at s ≡ left_write_in fresh f h l hi k at s
    left-write-shift-in end h l hi k at s = refl
    left-write-shift-in (tree q t f) h l hi k at s =
        rw (test-high prefix l hi k f, test_low prefix l k q)
        (cond-path (before k (high_of l hi f)) _ _ _ _
        (cond-path (before (l ++ q) k) _ _ _ _
        (ap₂ (λ x y. left_write fresh t h x y (prefix ++ k) at s) (append_assoc prefix l q) (high-shift prefix l hi f) ∙ left-write-shift t h (l ++ q) (high_of l hi f) k at s) refl)
        (left-write-shift-in f h l hi k at s))

  over-write-shift : (n h : ℕ) (lo hi : List ℕ) (g : Forest) (s : List ℕ) → over_write n h (prefix ++ lo) (prefix ++ hi) (raise prefix g) s ≡ over_write n h lo hi g s
  unfolding over_write raise
  over-write-shift n h lo hi end s = refl
  over-write-shift n h lo hi (tree q t f) s = ap (λ x. write_node s n (page_of h x)) (node-shift prefix n lo hi (tree q t f))

  packed-write-shift : (w : Bool) (h n m : ℕ) (k hi : List ℕ) (e r : Forest) (s : List ℕ)
      → packed_write w h n m (prefix ++ k) (prefix ++ hi) (raise prefix e) (raise prefix r) s ≡ packed_write w h n m k hi e r s
  unfolding packed_write
  packed-write-shift true h n m k hi e r s =
      rw (high-raised prefix hi r)
      (ap (over_write m h (prefix ++ high_of [] hi r) (prefix ++ hi) (raise prefix r)) (over-write-shift n h k (high_of [] hi r) e s)
      ∙ over-write-shift m h (high_of [] hi r) hi r (over_write n h k (high_of [] hi r) e s))
  packed-write-shift false h n m k hi e r s =
      ap (λ g. over_write n h (prefix ++ k) (prefix ++ hi) g s) (joined-raise prefix e r) ∙ over-write-shift n h k hi (joined e r) s

  right-leaf-page : (w : Bool) (i : ℕ) (rs : List Row) (h : ℕ) (lo hi k : List ℕ) (at : ℕ) (s : List ℕ)
      → right_write fresh w (leaf i rs) h (prefix ++ lo) (prefix ++ hi) (prefix ++ k) at s ≡ right_write fresh w (leaf i rs) h lo hi k at s
  unfolding right_write right_of raise first_of
  right-leaf-page w i rs h lo hi k at s = ap (λ g. write_node s (fresh at) (page_of h (first_of g))) (right-shift prefix fresh w (leaf i rs) lo hi k at)

  mutual
    unfolding right_write edge_write

    pub right-write-shift : (w : Bool) (t : Tree) (h : ℕ) (lo hi k : List ℕ) (at : ℕ) (s : List ℕ)
        → right_write fresh w t h (prefix ++ lo) (prefix ++ hi) (prefix ++ k) at s ≡ right_write fresh w t h lo hi k at s
    right-write-shift w (unread i) h lo hi k at s = refl
    right-write-shift w (leaf i rs) h lo hi k at s = right-leaf-page w i rs h lo hi k at s
    right-write-shift w (interior i f ms) zero lo hi k at s = refl
    right-write-shift w (interior i f ms) (suc h) lo hi k at s =
        rw (shared-append prefix lo hi, edge-shift prefix fresh w f (shared lo hi) hi k (after w at), rest-shift prefix f (shared lo hi) hi k, edge-write-shift w f h (shared lo hi) hi k (after w at) s)
        (packed-write-shift w (suc h) (fresh at) (fresh (suc at)) k hi (edge_in fresh w f (shared lo hi) hi k (after w at)) (rest_in f (shared lo hi) hi k)
        (edge_write fresh w f h (shared lo hi) hi k (after w at) s))

    pub edge-write-shift : (w : Bool) (f : Forest) (h : ℕ) (l hi k : List ℕ) (at : ℕ) (s : List ℕ)
        → edge_write fresh w f h (prefix ++ l) (prefix ++ hi) (prefix ++ k) at s ≡ edge_write fresh w f h l hi k at s
    edge-write-shift w end h l hi k at s = refl
    edge-write-shift w (tree q t f) h l hi k at s =
        rw (test-high prefix l hi k f, test_low prefix l k q)
        (cond-path (before k (high_of l hi f)) _ _ _ _
        (cond-path (before (l ++ q) k) _ _ _ _
        (ap₂ (λ x y. right_write fresh w t h x y (prefix ++ k) at s) (append_assoc prefix l q) (high-shift prefix l hi f) ∙ right-write-shift w t h (l ++ q) (high_of l hi f) k at s) refl)
        (edge-write-shift w f h l hi k at s))

-- the forms that code recurses by
module _ (fresh : ℕ → ℕ) (lo hi k : List ℕ) (a : before lo k ≡ true) (b : before k hi ≡ true) where
  pub left-write-strip : (t : Tree) (h at : ℕ) (s : List ℕ)
      → left_write fresh t h lo hi k at s
      ≡ left_write fresh t h (drop (length (shared lo hi)) lo) (drop (length (shared lo hi)) hi) (drop (length (shared lo hi)) k) at s
  left-write-strip t h at s =
      let d : ℕ = length (shared lo hi) in
      (λ i. left_write fresh t h (sym (split-low lo hi) i) (sym (split-high lo hi) i) (sym (split-cut lo hi k a b) i) at s)
      ∙ left-write-shift (shared lo hi) fresh t h (drop d lo) (drop d hi) (drop d k) at s

  pub right-write-strip : (w : Bool) (t : Tree) (h at : ℕ) (s : List ℕ)
      → right_write fresh w t h lo hi k at s
      ≡ right_write fresh w t h (drop (length (shared lo hi)) lo) (drop (length (shared lo hi)) hi) (drop (length (shared lo hi)) k) at s
  right-write-strip w t h at s =
      let d : ℕ = length (shared lo hi) in
      (λ i. right_write fresh w t h (sym (split-low lo hi) i) (sym (split-high lo hi) i) (sym (split-cut lo hi k a b) i) at s)
      ∙ right-write-shift (shared lo hi) fresh w t h (drop d lo) (drop d hi) (drop d k) at s
