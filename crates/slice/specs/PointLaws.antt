-- The parts of a node over its children as they are read, by the point where the cut falls. Relies on Slicing (left_in, left_write_in).
use Rattle.std.specs.Prelude.{ℕ, ◌+◌, ◌≡◌, refl, List, [], ◌∷◌, ◌++◌, Bool, true, false, length, drop}
use Rattle.image.specs.Prelude.{ap, ap₂, ◌∙◌, append-nil, false≢true, Option, none, some, arith, cases}
use Rattle.image.specs.Bytes.{before}
use Rattle.image.specs.Entry as defined
use Rattle.image.specs.Table.{Row}
use Rattle.image.specs.Image.{Tree, unread, leaf, interior, tree, Branch, forest_of, pair_then, pairs_of}
use Rattle.octets.specs.Order.{and_left, and_right}
use Rattle.laws.specs.Encode.{bytes_of, bytes_of_all}
use Rattle.laws.specs.Filter.{keep, lower_rows}
use Rattle.laws.specs.Pieces.{lower, node}
use Rattle.laws.specs.Page.{number_of, pair_entries, child_entries}
use Rattle.laws.specs.Reading.Relative.{branch_high, high-at, usable, usable_in}
use Rattle.slice.specs.Slicing.Slice.{left_of, left_in}
use Rattle.slice.specs.Slicing.SliceWrite.{left_write_in}
use Rattle.slice.specs.Point.{point_of, before_line, left_at, side_line}

module _ (fresh : ℕ → ℕ) (under : ℕ → Tree) (hi k : List ℕ) where
  pub number_cut : (m : ℕ) (t : Tree) (lo high : List ℕ) (at : ℕ) → usable m t ≡ true → number_of (left_of fresh t lo high k at) ≡ fresh at
  unfolding left_of number_of usable node
  number_cut m (unread i) lo high at e = absurd (false≢true e)
  number_cut m (leaf i rs) lo high at e = refl
  number_cut m (interior i f ms) lo high at e = refl

  pub before-line : (l : List ℕ) (ks : List Branch) (at m : ℕ) → ((j : ℕ) → number_of (under j) ≡ j) → usable_in m (forest_of under ks) ≡ true
      → bytes_of_all (child_entries (lower l (left_in fresh (forest_of under ks) [] hi k at))) ≡ before_line (length l) (fresh at) ks hi k
  unfolding left_in forest_of lower child_entries bytes_of_all before_line usable_in
  before-line l [] at m num u = refl
  before-line l (c ∷ cs) at m num u =
      go (before k (branch_high hi cs)) refl (before c.pivot k) refl (before-line l cs at m num (and_right (usable m (under c.number)) _ u))
    where
      t : Tree
      t = under c.number

      go : (x : Bool) → before k (branch_high hi cs) ≡ x → (y : Bool) → before c.pivot k ≡ y
          → bytes_of_all (child_entries (lower l (left_in fresh (forest_of under cs) [] hi k at))) ≡ before_line (length l) (fresh at) cs hi k
          → bytes_of_all (child_entries (lower l (left_in fresh (tree c.pivot t (forest_of under cs)) [] hi k at))) ≡ before_line (length l) (fresh at) (c ∷ cs) hi k
      go true a true b ih =
          rw (high-at under hi cs, a, b)
          (append-nil _ ∙ ap (λ i. bytes_of (defined.child i (drop (length l) c.pivot))) (number_cut m t c.pivot (branch_high hi cs) at (and_left _ _ u)))
      go true a false b ih = rw (high-at under hi cs, a, b)
      go false a y b ih =
          rw (high-at under hi cs, a) (ap₂ (λ i r. bytes_of (defined.child i (drop (length l) c.pivot)) ++ r) (num c.number) ih)

  pub left-write : (ks : List Branch) (n h at : ℕ) (s : List ℕ) → left_write_in fresh (forest_of under ks) h [] hi k at s ≡ left_at fresh under h k at s (point_of n ks hi k)
  unfolding left_write_in forest_of point_of left_at
  left-write [] n h at s = refl
  left-write (c ∷ cs) n h at s =
      cases (before k (branch_high hi cs))
      (λ a. cases (before c.pivot k) (λ b. rw (high-at under hi cs, a, b)) (λ b. rw (high-at under hi cs, a, b)))
      (λ a. rw (high-at under hi cs, a) (left-write cs (n + 1) h at s))

-- a leaf's pairs on a side of the cut
pub side-line : (test : List ℕ → Bool) (l : List ℕ) (es : List defined.Entry) (rs : List Row) → pairs_of es ≡ some rs
    → bytes_of_all (pair_entries (lower_rows l (keep test rs))) ≡ side_line test (length l) es
unfolding pairs_of side_line keep lower_rows pair_entries bytes_of_all
side-line test l [] rs h = let q : rs ≡ [] = cc in rw q
side-line test l (defined.pair a v ∷ es) rs h = go (pairs_of es) refl (side-line test l es)
  where
    by-test : (x : Bool) → test a ≡ x → (ts : List Row) → bytes_of_all (pair_entries (lower_rows l (keep test ts))) ≡ side_line test (length l) es
        → bytes_of_all (pair_entries (lower_rows l (keep test (record { key = a; value = v } ∷ ts)))) ≡ side_line test (length l) (defined.pair a v ∷ es)
    by-test true e ts ih = rw e (ap (λ r. bytes_of (defined.pair (drop (length l) a) v) ++ r) ih)
    by-test false e ts ih = rw e ih

    go : (o : Option (List Row)) → pairs_of es ≡ o → ((ts : List Row) → pairs_of es ≡ some ts → bytes_of_all (pair_entries (lower_rows l (keep test ts))) ≡ side_line test (length l) es)
        → bytes_of_all (pair_entries (lower_rows l (keep test rs))) ≡ side_line test (length l) (defined.pair a v ∷ es)
    go none e ih = let q : none ≡ some rs = unfold pair_then in rw e at h in let z : ◌≡◌ {A = ℕ} 0 1 = cc in absurd (omega arith)
    go (some ts) e ih =
        let q : some (record { key = a; value = v } ∷ ts) ≡ some rs = unfold pair_then in rw e at h in
        let p : rs ≡ record { key = a; value = v } ∷ ts = cc in
        rw p (by-test (test a) refl ts (ih ts e))
side-line test l (defined.child i a ∷ es) rs h = let q : none ≡ some rs = unfold pair_then in h in let z : ◌≡◌ {A = ℕ} 0 1 = cc in absurd (omega arith)
side-line test l (defined.message m ∷ es) rs h = let q : none ≡ some rs = unfold pair_then in h in let z : ◌≡◌ {A = ℕ} 0 1 = cc in absurd (omega arith)
