-- What the root's writer writes is the page of the move's root: slice/Moving's pieces, as the bytes of Root.
-- Relies on slice/Moving's definitions of the pieces, and on slice/Slicing's of a right part.
use Rattle.std.specs.Prelude.{ℕ, suc, ◌≤◌, ◌≡◌, refl, List, [], ◌∷◌, ◌++◌, true, false, length}
use Rattle.image.specs.Prelude.{sym, ap, ap₂, ◌∙◌, append_assoc, false≢true, arith, leb-true}
use Rattle.image.specs.Bytes.{shared}
use Rattle.image.specs.Entry.{child}
use Rattle.image.specs.Image.{Tree, unread, leaf, interior, Forest, end, tree, Branch}
use Rattle.image.specs.Sound.{sound_tree}
use Rattle.octets.specs.Order.{and_left}
use Rattle.laws.specs.Encode.{bytes_of, bytes_of_all}
use Rattle.laws.specs.Page.{page, number_of, child_entries, branches_of}
use Rattle.laws.specs.Pieces.{joined, lower, node, over}
use Rattle.laws.specs.Upkeep.Size.{bytes-append}
use Rattle.slice.specs.Slicing.Slice.{right_of, edge_in, rest_in, packed, after}
use Rattle.slice.specs.Slicing.SliceFits.{branches_size, fits}
use Rattle.slice.specs.Slicing.ReadBack.{branches-size}
use Rattle.slice.specs.Slicing.SliceWrite.{page_of}
use Rattle.slice.specs.Slicing.Tail.{first_of, tail_of}
use Rattle.slice.specs.Slicing.Range.{past}
use Rattle.slice.specs.Moving.Move.{left_p, right_past_p, right_past_r, pieces, root_over}
use Rattle.slice.specs.Right.{pieces_in, all_line, raise_branches}
use Rattle.swing.specs.declared.root.Half.{Half}
use Rattle.swing.specs.Cuts.{front}
use Rattle.swing.specs.Root.{half_line, root_line}

-- ENTRIES
entries-joined : (f g : Forest) → child_entries (joined f g) ≡ child_entries f ++ child_entries g
unfolding child_entries joined
entries-joined end g = refl
entries-joined (tree s t f) g = ap (λ l. child (number_of t) s ∷ l) (entries-joined f g)

-- the bytes of some pieces
unfoldable piece_list : Forest → List ℕ
piece_list f = bytes_of_all (child_entries f)

list-joined : (f g : Forest) → piece_list (joined f g) ≡ piece_list f ++ piece_list g
unfolding piece_list
list-joined f g = ap bytes_of_all (entries-joined f g) ∙ bytes-append (child_entries f) (child_entries g)

list-more : (pivot : List ℕ) (t : Tree) (f : Forest) → piece_list (tree pivot t f) ≡ bytes_of (child (number_of t) pivot) ++ piece_list f
unfolding piece_list child_entries bytes_of_all
list-more pivot t f = refl

-- as the slices tell them
list-line : (f : Forest) → piece_list f ≡ all_line 0 (branches_of f)
unfolding piece_list child_entries bytes_of_all all_line branches_of
list-line end = refl
list-line (tree s t f) = ap (λ l. bytes_of (child (number_of t) s) ++ l) (list-line f)

raise-none : (ks : List Branch) → raise_branches [] ks ≡ ks
unfolding raise_branches
raise-none [] = refl
raise-none (k ∷ ks) = ap (λ l. k ∷ l) (raise-none ks)

lower-nil : (f : Forest) → lower [] f ≡ f
unfolding lower
lower-nil end = refl
lower-nil (tree s t f) = ap (λ g. tree s t g) (lower-nil f)

-- ONE HALF
half_is : (f : Forest) (t : Tree) (path bound out : List ℕ) (half : Half) → front bound ≡ path → number_of t ≡ half.number
    → raise_branches [] (branches_of f) ≡ pieces_in half.pieces.edge half.pieces.rest bound out half.pieces.parts → piece_list (tree path t f) ≡ half_line bound half out
unfolding half_line
half_is f t path bound out half ef n e =
    list-more path t f
    ∙ ap₂ (λ a b. a ++ b) (ap₂ (λ k q. bytes_of (child k q)) n (sym ef)) (list-line f ∙ ap (all_line 0) (sym (raise-none (branches_of f)) ∙ e))

half-join : (f g : Forest) (t : Tree) (path bound out : List ℕ) (half : Half) → front bound ≡ path → number_of t ≡ half.number
    → raise_branches [] (branches_of f) ≡ pieces_in half.pieces.edge half.pieces.rest bound out half.pieces.parts → piece_list (tree path t (joined f g)) ≡ half_line bound half out ++ piece_list g
half-join f g t path bound out half ef n e =
    list-more path t (joined f g) ∙ ap (λ l. bytes_of (child (number_of t) path) ++ l) (list-joined f g)
    ∙ sym (append_assoc (bytes_of (child (number_of t) path)) (piece_list f) (piece_list g))
    ∙ ap (λ l. l ++ piece_list g) (sym (list-more path t f) ∙ half_is f t path bound out half ef n e)

-- THE ROOT
module _ (fresh : ℕ → ℕ) (h : ℕ) (t : Tree) (p r : List ℕ) (x y : Tree) (left : ℕ) (low high : Half) (behind last : List ℕ)
    (ep : front (past p) ≡ p) (er : front (past r) ≡ r) (left_is : number_of (left_p fresh h t p r) ≡ left) (x-is : number_of x ≡ low.number) (y-is : number_of y ≡ high.number)
    (low_is : raise_branches [] (branches_of (right_past_p fresh h t p r)) ≡ pieces_in low.pieces.edge low.pieces.rest (past p) behind low.pieces.parts)
    (high_is : raise_branches [] (branches_of (right_past_r fresh h t p r)) ≡ pieces_in high.pieces.edge high.pieces.rest (past r) last high.pieces.parts) where
  pieces_are : piece_list (pieces fresh h t p r x y) ≡ root_line left (past p) low behind (past r) high last
  unfolding pieces root_line
  pieces_are =
      list-more [] (left_p fresh h t p r) (tree p x (joined (right_past_p fresh h t p r) (tree r y (right_past_r fresh h t p r))))
      ∙ ap₂ (λ a b. bytes_of (child a []) ++ b) left_is
      (half-join (right_past_p fresh h t p r) (tree r y (right_past_r fresh h t p r)) x p (past p) behind low ep x-is low_is
      ∙ ap (λ l. half_line (past p) low behind ++ l) (half_is (right_past_r fresh h t p r) y r (past r) last high er y-is high_is))

  entries-are : bytes_of_all (child_entries (lower [] (pieces fresh h t p r x y))) ≡ root_line left (past p) low behind (past r) high last
  entries-are = ap (λ g. bytes_of_all (child_entries g)) (lower-nil (pieces fresh h t p r x y)) ∙ (unfold piece_list in pieces_are)

  pub root-page : page 2 (suc h) (root_line left (past p) low behind (past r) high last) ≡ page_of (suc h) (root_over fresh h t p r x y)
  unfolding page_of root_over node shared
  root-page = sym (ap (λ f. page 0x0002 (suc h) f) entries-are)

  pub root-size : fits (root_over fresh h t p r x y) ≡ true → length (root_line left (past p) low behind (past r) high last) ≤ 1016
  unfolding root_over node fits shared
  root-size e =
      let a = ap length entries-are in
      let b = branches-size (lower [] (pieces fresh h t p r x y)) in
      let c : branches_size (lower [] (pieces fresh h t p r x y)) ≤ 1016 = leb-true (branches_size (lower [] (pieces fresh h t p r x y))) 1016 (and_left _ _ (and_left _ _ e)) in
      omega arith

-- the middle takes the number at its place
pub number-tail : (fresh : ℕ → ℕ) (u : Tree) (lo hi k : List ℕ) (at : ℕ) → sound_tree (tail_of fresh u lo hi k at) k hi ≡ true → number_of (tail_of fresh u lo hi k at) ≡ fresh at
unfolding tail_of right_of first_of packed
number-tail fresh (unread i) lo hi k at e = absurd (false≢true (unfold sound_tree in e))
number-tail fresh (leaf i rs) lo hi k at e = unfold number_of in refl
number-tail fresh (interior i f ms) lo hi k at e = go (joined (edge_in fresh false f (shared lo hi) hi k (after false at)) (rest_in f (shared lo hi) hi k)) e
  where
    go : (g : Forest) → sound_tree (first_of (over (fresh at) k hi g)) k hi ≡ true → number_of (first_of (over (fresh at) k hi g)) ≡ fresh at
    go end q = absurd (false≢true (unfold over first_of sound_tree in q))
    go (tree s t g) q = unfold over first_of node number_of in refl
