-- The pieces of the right part as children of a node: over one node or two, which fit where the whole fits, and what is known of the child
-- that holds the cut. Relies on RightLaws.
use Rattle.std.specs.Prelude.{ℕ, ◌+◌, ◌≤◌, ◌≡◌, refl, List, [], ◌∷◌, ◌++◌, true, false, length}
use Rattle.image.specs.Prelude.{ap, ap₂, ◌∙◌, arith, cases}
use Rattle.image.specs.Bytes.{before, shared}
use Rattle.image.specs.Image.{Tree, Forest, end, tree, Branch, forest_of}
use Rattle.image.specs.Meaning.{high_of}
use Rattle.octets.specs.Order.{and_left, and_right}
use Rattle.laws.specs.Pieces.{joined, node, over}
use Rattle.laws.specs.Page.{number_of, branches_of}
use Rattle.laws.specs.Reading.Relative.{branch_high, usable, usable_in}
use Rattle.slice.specs.Slicing.Slice.{packed}
use Rattle.slice.specs.Slicing.SliceFits.{fits_in}
use Rattle.slice.specs.Slicing.RightWrite.{over_write, packed_write, fits-parts}
use Rattle.slice.specs.Point.{Point, within, between, nowhere, point_of}
use Rattle.slice.specs.Right.{edge_piece, rest_piece, pieces_in, PartsFit, raise_branches, all_line, over_body, two_body, wide_body, one_node, head_branch}
use Rattle.slice.specs.RightLaws.{branches-joined, over-body, over-fits}

-- CHILDREN OF A PIECE
over-branches : (n : ℕ) (lo hi : List ℕ) (g : Forest) → branches_of (over n lo hi g) ≡ head_branch n lo (branches_of g)
over-branches n lo hi end = unfold over branches_of head_branch in refl
over-branches n lo hi (tree q t f) = unfold over node branches_of number_of head_branch in refl

-- NODES OVER PIECES, WIDE AND NARROW
module _ (n m : ℕ) (k hi : List ℕ) (e r : Forest) where
  pub packed-wide : branches_of (packed true n m k hi e r) ≡ head_branch n k (branches_of e) ++ head_branch m (high_of [] hi r) (branches_of r)
  unfolding packed
  packed-wide =
      branches-joined (over n k (high_of [] hi r) e) (over m (high_of [] hi r) hi r)
      ∙ ap₂ (λ x y. x ++ y) (over-branches n k (high_of [] hi r) e) (over-branches m (high_of [] hi r) hi r)

  pub packed-narrow : branches_of (packed false n m k hi e r) ≡ head_branch n k (branches_of e ++ branches_of r)
  unfolding packed
  packed-narrow = over-branches n k hi (joined e r) ∙ ap (head_branch n k) (branches-joined e r)

  pub wide_fits : fits_in (packed true n m k hi e r) ≡ true
      → (length (all_line (length (shared k (high_of [] hi r))) (branches_of e)) ≤ 1016) × (length (all_line (length (shared (high_of [] hi r) hi)) (branches_of r)) ≤ 1016) × (fits_in e ≡ true)
  unfolding packed
  wide_fits f =
      let p = fits-parts (over n k (high_of [] hi r) e) (over m (high_of [] hi r) hi r) f in
      let x = over-fits n k (high_of [] hi r) e p.0 in
      let y = over-fits m (high_of [] hi r) hi r p.1 in
      (x.0, y.0, x.1)

  pub narrow-fits : fits_in (packed false n m k hi e r) ≡ true → (length (all_line (length (shared k hi)) (branches_of e ++ branches_of r)) ≤ 1016) × (fits_in e ≡ true)
  unfolding packed
  narrow-fits f =
      let x = over-fits n k hi (joined e r) f in
      let l = ap (λ q. length (all_line (length (shared k hi)) q)) (branches-joined e r) in
      let a = x.0 in
      (omega arith, (fits-parts e r x.1).0)

pub write-wide-is : (h n m : ℕ) (k hi : List ℕ) (e r : Forest) (s : List ℕ) → packed_write true h n m k hi e r s ≡ wide_body n m h k hi (high_of [] hi r) (branches_of e) (branches_of r) s
unfolding packed_write wide_body two_body
write-wide-is h n m k hi e r s =
    over-body m h (high_of [] hi r) hi r (over_write n h k (high_of [] hi r) e s)
    ∙ ap (over_body m h (all_line (length (shared (high_of [] hi r) hi)) (branches_of r))) (over-body n h k (high_of [] hi r) e s)

pub write-narrow-is : (h n m : ℕ) (k hi : List ℕ) (e r : Forest) (s : List ℕ) → packed_write false h n m k hi e r s ≡ over_body n h (all_line (length (shared k hi)) (branches_of e ++ branches_of r)) s
unfolding packed_write
write-narrow-is h n m k hi e r s =
    over-body n h k hi (joined e r) s ∙ ap (λ q. over_body n h (all_line (length (shared k hi)) q) s) (branches-joined e r)

pub one_told : (n m : ℕ) (lift k out : List ℕ) (ks : List Branch) → raise_branches lift (head_branch n k ks) ≡ pieces_in n m (lift ++ k) out (one_node ks)
unfolding head_branch raise_branches pieces_in edge_piece rest_piece one_node
one_told n m lift k out [] = refl
one_told n m lift k out (c ∷ cs) = refl

pub one-fit : (m : ℕ) (ks : List Branch) → PartsFit m (one_node ks)
unfolding one_node
one-fit m [] = tt
one-fit m (c ∷ cs) = tt

-- THE CHILD THAT HOLDS THE CUT
unfoldable pub PointIs : (ℕ → Tree) → ℕ → List ℕ → Point → Type 0
PointIs under m k (within n i low high) = (usable m (under i) ≡ true) × (before low k ≡ true) × (before k high ≡ true)
PointIs under m k (between n low) = Unit
PointIs under m k (nowhere n) = Unit

pub point-is : (under : ℕ → Tree) (hi k : List ℕ) (m : ℕ) (ks : List Branch) (n : ℕ) → usable_in m (forest_of under ks) ≡ true → PointIs under m k (point_of n ks hi k)
unfolding forest_of point_of PointIs usable_in
point-is under hi k m [] n u = tt
point-is under hi k m (c ∷ cs) n u =
    cases (before k (branch_high hi cs))
    (λ a. cases (before c.pivot k) (λ b. rw (a, b) (and_left _ _ u, b, a)) (λ b. rw (a, b) tt))
    (λ a. rw a (point-is under hi k m cs (n + 1) (and_right (usable m (under c.number)) _ u)))
