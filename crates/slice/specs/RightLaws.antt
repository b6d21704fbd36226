-- The right parts of a node over its children as they are read. Relies on Slicing (edge_in, rest_in, edge_write, over_write).
use Rattle.std.specs.Prelude.{ℕ, ◌+◌, ◌*◌, ◌≤◌, ◌≡◌, refl, List, [], ◌∷◌, ◌++◌, Bool, true, ◌&&◌, cond, length, drop, leb, ltb}
use Rattle.image.specs.Prelude.{sym, ap, ap₂, ◌∙◌, append_assoc, arith, length-append, leb-true, ne_eqb, cases}
use Rattle.image.specs.Bytes.{before, shared}
use Rattle.image.specs.Entry as defined
use Rattle.image.specs.Image.{Tree, Forest, end, tree, Branch, forest_of}
use Rattle.octets.specs.Order.{and_left, and_right}
use Rattle.laws.specs.Encode.{bytes_of, bytes_of_all, child-size}
use Rattle.laws.specs.Pieces.{joined, raise, lower, node, over}
use Rattle.laws.specs.Page.{page, number_of, child_entries, branches_of}
use Rattle.laws.specs.WriteNode.{write_node}
use Rattle.laws.specs.Reading.Relative.{branch_high, high-at}
use Rattle.slice.specs.Slicing.Slice.{rest_in, edge_in}
use Rattle.slice.specs.Slicing.SliceFits.{branches_size, short_in, fits, fits_in, fits-lower}
use Rattle.slice.specs.Slicing.ReadBack.{branches-size}
use Rattle.slice.specs.Slicing.SliceWrite.{page_of}
use Rattle.slice.specs.Slicing.RightWrite.{over_write, edge_write}
use Rattle.node.specs.Search.Own.{branch, branches_among}
use Rattle.push.specs.Laws.Written.{small_numbers}
use Rattle.slice.specs.Point.{point_of}
use Rattle.slice.specs.Right.{rest_of, edge_at, right_at, raise_branches, all_line, over_body}

-- THE REST
module _ (hi k : List ℕ) where
  raise-none : (f : Forest) → raise [] f ≡ f
  unfolding raise
  raise-none end = refl
  raise-none (tree s t f) = ap (λ g. tree s t g) (raise-none f)

  pub rest-is : (under : ℕ → Tree) (ks : List Branch) → rest_in (forest_of under ks) [] hi k ≡ forest_of under (rest_of ks hi k)
  unfolding rest_in forest_of rest_of
  rest-is under [] = refl
  rest-is under (c ∷ cs) =
      cases (before k (branch_high hi cs))
      (λ a. cases (before c.pivot k) (λ b. rw (high-at under hi cs, a, b) (raise-none (forest_of under cs)))
      (λ b. rw (high-at under hi cs, a, b) (ap (λ g. tree c.pivot (under c.number) g) (raise-none (forest_of under cs)))))
      (λ a. rw (high-at under hi cs, a) (rest-is under cs))

  -- THE EDGE
  pub edge-is : (fresh : ℕ → ℕ) (w : Bool) (under : ℕ → Tree) (n at : ℕ) (ks : List Branch)
      → edge_in fresh w (forest_of under ks) [] hi k at ≡ edge_at fresh w under k at (point_of n ks hi k)
  unfolding edge_in forest_of point_of edge_at
  edge-is fresh w under n at [] = refl
  edge-is fresh w under n at (c ∷ cs) =
      cases (before k (branch_high hi cs))
      (λ a. cases (before c.pivot k) (λ b. rw (high-at under hi cs, a, b)) (λ b. rw (high-at under hi cs, a, b)))
      (λ a. rw (high-at under hi cs, a) (edge-is fresh w under (n + 1) at cs))

  pub edge-write : (fresh : ℕ → ℕ) (w : Bool) (under : ℕ → Tree) (n h at : ℕ) (s : List ℕ) (ks : List Branch)
      → edge_write fresh w (forest_of under ks) h [] hi k at s ≡ right_at fresh w under h k at s (point_of n ks hi k)
  unfolding edge_write forest_of point_of right_at
  edge-write fresh w under n h at s [] = refl
  edge-write fresh w under n h at s (c ∷ cs) =
      cases (before k (branch_high hi cs))
      (λ a. cases (before c.pivot k) (λ b. rw (high-at under hi cs, a, b)) (λ b. rw (high-at under hi cs, a, b)))
      (λ a. rw (high-at under hi cs, a) (edge-write fresh w under (n + 1) h at s cs))

-- KIDS OF PIECES
pub branches-raise : (l : List ℕ) (f : Forest) → branches_of (raise l f) ≡ raise_branches l (branches_of f)
unfolding branches_of raise raise_branches
branches-raise l end = refl
branches-raise l (tree s t f) = ap (λ ks. branch (number_of t) (l ++ s) ∷ ks) (branches-raise l f)

pub branches-joined : (f g : Forest) → branches_of (joined f g) ≡ branches_of f ++ branches_of g
unfolding branches_of joined
branches-joined end g = refl
branches-joined (tree s t f) g = ap (λ ks. branch (number_of t) s ∷ ks) (branches-joined f g)

pub branches-forest : (under : ℕ → Tree) (ks : List Branch) → ((j : ℕ) → number_of (under j) ≡ j) → branches_of (forest_of under ks) ≡ ks
unfolding branches_of forest_of
branches-forest under [] num = refl
branches-forest under (c ∷ cs) num = ap₂ (λ i ks. branch i c.pivot ∷ ks) (num c.number) (branches-forest under cs num)

-- LINES
pub line-lower : (l : List ℕ) (f : Forest) → bytes_of_all (child_entries (lower l f)) ≡ all_line (length l) (branches_of f)
unfolding bytes_of_all child_entries lower all_line branches_of
line-lower l end = refl
line-lower l (tree s t f) = ap (λ r. bytes_of (defined.child (number_of t) (drop (length l) s)) ++ r) (line-lower l f)

pub all_append : (d : ℕ) (ks us : List Branch) → all_line d (ks ++ us) ≡ all_line d ks ++ all_line d us
unfolding all_line
all_append d [] us = refl
all_append d (c ∷ cs) us =
    ap (λ r. bytes_of (defined.child c.number (drop d c.pivot)) ++ r) (all_append d cs us)
    ∙ sym (append_assoc (bytes_of (defined.child c.number (drop d c.pivot))) (all_line d cs) (all_line d us))

pub all-long : (d : ℕ) (ks : List Branch) → 6 * length ks ≤ length (all_line d ks)
unfolding all_line
all-long d [] = omega arith
all-long d (c ∷ cs) =
    let a = length-append (bytes_of (defined.child c.number (drop d c.pivot))) (all_line d cs) in
    let b = child-size c.number (drop d c.pivot) in
    let e = all-long d cs in
    omega arith

-- children among entries are no longer than these, and those from a cut on no longer than all
pub among-short : (es : List defined.Entry) → length (all_line 0 (branches_among es)) ≤ length (bytes_of_all es)
unfolding all_line branches_among bytes_of_all
among-short [] = omega arith
among-short (defined.pair k v ∷ es) = omega arith
among-short (defined.message m ∷ es) = omega arith
among-short (defined.child i k ∷ es) =
    let a = length-append (bytes_of (defined.child i k)) (all_line 0 (branches_among es)) in
    let b = length-append (bytes_of (defined.child i k)) (bytes_of_all es) in
    let e = among-short es in
    omega arith

pub rest-short : (hi k : List ℕ) (ks : List Branch) → length (all_line 0 (rest_of ks hi k)) ≤ length (all_line 0 ks)
unfolding all_line rest_of
rest-short hi k [] = omega arith
rest-short hi k (c ∷ cs) =
    let a = length-append (bytes_of (defined.child c.number c.pivot)) (all_line 0 cs) in
    let e = rest-short hi k cs in
    cases (before k (branch_high hi cs))
    (λ x. cases (before c.pivot k) (λ y. rw (x, y) (omega arith)) (λ y. rw (x, y) (omega arith)))
    (λ x. rw x (omega arith))

pub rest-small : (hi k : List ℕ) (ks : List Branch) → small_numbers ks ≡ true → small_numbers (rest_of ks hi k) ≡ true
unfolding rest_of small_numbers
rest-small hi k [] e = refl
rest-small hi k (c ∷ cs) e =
    cases (before k (branch_high hi cs))
    (λ x. cases (before c.pivot k) (λ y. rw (x, y) (and_right (ltb c.number 65536) _ e)) (λ y. rw (x, y) e))
    (λ x. rw x (rest-small hi k cs (and_right (ltb c.number 65536) _ e)))

-- A NODE OVER PIECES, BY ITS ENTRIES
pub over-body : (n h : ℕ) (lo hi : List ℕ) (g : Forest) (s : List ℕ) → over_write n h lo hi g s ≡ over_body n h (all_line (length (shared lo hi)) (branches_of g)) s
unfolding over_write over_body
over-body n h lo hi end s = unfold branches_of all_line in refl
over-body n h lo hi (tree q t f) s =
    let line : bytes_of_all (child_entries (lower (shared lo hi) (tree q t f))) ≡ all_line (length (shared lo hi)) (branches_of (tree q t f)) = line-lower (shared lo hi) (tree q t f) in
    let long : 6 ≤ length (all_line (length (shared lo hi)) (branches_of (tree q t f))) = some-branches in
    shown ∙ ap (λ b. write_node s n (page 2 h b)) line
    ∙ sym (ap (λ b. cond b s (write_node s n (page 2 h (all_line (length (shared lo hi)) (branches_of (tree q t f)))))) (ne_eqb (length (all_line (length (shared lo hi)) (branches_of (tree q t f)))) 0 (λ z. omega arith)))
  where
    some-branches : 6 ≤ length (all_line (length (shared lo hi)) (branches_of (tree q t f)))
    some-branches = let a = all-long (length (shared lo hi)) (branches_of (tree q t f)) in let b : 1 ≤ length (branches_of (tree q t f)) = unfold branches_of in (omega arith) in omega arith

    shown : write_node s n (page_of h (node n lo hi (tree q t f))) ≡ write_node s n (page 2 h (bytes_of_all (child_entries (lower (shared lo hi) (tree q t f)))))
    shown = unfold page_of node in refl

pub over-fits : (n : ℕ) (lo hi : List ℕ) (g : Forest) → fits_in (over n lo hi g) ≡ true → (length (all_line (length (shared lo hi)) (branches_of g)) ≤ 1016) × (fits_in g ≡ true)
unfolding over fits_in fits node
over-fits n lo hi end e = (unfold branches_of all_line in (omega arith), refl)
over-fits n lo hi (tree q t f) e =
    let g : Forest = tree q t f in
    let a : leb (branches_size (lower (shared lo hi) (tree q t f))) 1016 && short_in (lower (shared lo hi) (tree q t f)) && fits_in (lower (shared lo hi) (tree q t f)) ≡ true = and_left _ _ e in
    let b : branches_size (lower (shared lo hi) (tree q t f)) ≤ 1016 = leb-true (branches_size (lower (shared lo hi) (tree q t f))) 1016 (and_left _ _ (and_left _ _ a)) in
    let c = branches-size (lower (shared lo hi) (tree q t f)) in
    let l = ap length (line-lower (shared lo hi) (tree q t f)) in (
      omega arith,
      sym (fits-lower (shared lo hi) (tree q t f)) ∙ and_right (leb (branches_size (lower (shared lo hi) (tree q t f))) 1016 && short_in (lower (shared lo hi) (tree q t f))) _ a,
    )
