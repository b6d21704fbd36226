-- The numbers that the slices of a move take, and the chain of empty nodes that stands where a range was cut out, written into an image.
-- Relies on the laws of slices (Slicing) and of the move (MoveLaws).
use Rattle.std.specs.Prelude.{ℕ, zero, suc, ◌+◌, ◌*◌, ◌-◌, ◌≤◌, ◌≡◌, refl, List, [], Bool, true, false, length}
use Rattle.image.specs.Prelude.{sym, ap, subst, ◌∙◌, false≢true, arith}
use Rattle.image.specs.Entry.{pivot_limit}
use Rattle.image.specs.Bytes.{before}
use Rattle.image.specs.Image.{Tree, leaf, Forest, end, tree, tree_at}
use Rattle.image.specs.Sound.{sound_tree}
use Rattle.laws.specs.WriteNode.{write_node}
use Rattle.laws.specs.Pieces.{levelled, node}
use Rattle.slice.specs.Slicing.Slice.{left_of, right_of}
use Rattle.slice.specs.Slicing.SliceNumbers.{one, met, met_in, spent, taken, left-numbers, right-numbers}
use Rattle.slice.specs.Slicing.SliceFits.{fits}
use Rattle.laws.specs.Page.{number_of}
use Rattle.slice.specs.Slicing.ReadBack.{ReadsIn}
use Rattle.slice.specs.Slicing.SliceWrite.{page_of, page_of-full, stays, stays-in, node_done, leaf-done, one_same, Only, only_none, only-more, LeftDone}
use Rattle.slice.specs.Slicing.Tail.{first_of, gap_of, gap-fits, gap-met}
use Rattle.slice.specs.Slicing.Range.{past, before-past}
use Rattle.slice.specs.Moving.MoveLaws.{spent-split, taken-one}

-- blocks of numbers
pub spent-mono : (fresh : ℕ → ℕ) (j a b at : ℕ) → a ≤ b → spent fresh j a at ≤ spent fresh j b at
spent-mono fresh j a b at h = omega (arith, spent-split fresh j a (b - a) b at (a + at) (omega arith) refl)

pub spent-block : (fresh : ℕ → ℕ) (j c b at n : ℕ) → c ≤ at → at + b ≤ n → spent fresh j c 0 + spent fresh j b at ≤ spent fresh j n 0
spent-block fresh j c b at n h g =
    omega (arith, spent-mono fresh j c at 0 h, spent-split fresh j at b (at + b) 0 at refl (omega arith), spent-mono fresh j (at + b) n 0 g)

pub only_then : (fresh : ℕ → ℕ) (s s' s'' : List ℕ) (a b c at at' : ℕ) → c ≡ a + b → at' ≡ a + at → Only fresh s s' a at → Only fresh s' s'' b at' → Only fresh s s'' c at
only_then fresh s s' s'' a b c at at' e f o p =
    record {
      size = p.size ∙ o.size;
      others = λ j z. p.others j (omega (arith, spent-split fresh j a b c at at' e f)) ∙ o.others j (omega (arith, spent-split fresh j a b c at at' e f));
    }

-- the empty chain
unfoldable pub gap_write : (ℕ → ℕ) → ℕ → List ℕ → List ℕ → ℕ → List ℕ → List ℕ
gap_write fresh zero lo hi at s = s
gap_write fresh (suc zero) lo hi at s = write_node s (fresh at) (page_of 1 (leaf (fresh at) []))
gap_write fresh (suc (suc h)) lo hi at s =
    write_node (gap_write fresh (suc h) lo hi (suc at) s) (fresh at)
    (page_of (suc (suc h)) (node (fresh at) lo hi (tree lo (gap_of fresh (suc h) lo hi (suc at)) end)))

pub gap-number : (fresh : ℕ → ℕ) (h : ℕ) (lo hi : List ℕ) (at : ℕ) → number_of (gap_of fresh (suc h) lo hi at) ≡ fresh at
unfolding gap_of number_of node
gap-number fresh zero lo hi at = refl
gap-number fresh (suc h) lo hi at = refl

pub gap-written : (fresh : ℕ → ℕ) (lo hi : List ℕ) → before lo hi ≡ true → length lo ≤ pivot_limit → (h at : ℕ) (s : List ℕ) → ((x : ℕ) → 1024 * fresh x + 1024 ≤ length s)
    → ((j : ℕ) → spent fresh j (suc h) at ≤ 1) → LeftDone fresh s (gap_write fresh (suc h) lo hi at s) (suc h) at (gap_of fresh (suc h) lo hi at)
unfolding gap_write gap_of spent ReadsIn met_in
gap-written fresh lo hi lt short zero at s room d =
    let fit : fits (leaf (fresh at) []) ≡ true = gap-fits fresh lo hi lt 0 at short in
    record {
      only = only-more fresh s s 0 at (page_of 1 (leaf (fresh at) [])) (room at) (page_of-full 1 (leaf (fresh at) []) fit) (only_none fresh s 0 (suc at));
      reads = leaf-done s (fresh at) [] (room at) fit;
    }
gap-written fresh lo hi lt short (suc h) at s room d =
    let ih : LeftDone fresh s (gap_write fresh (suc h) lo hi (suc at) s) (suc h) (suc at) (gap_of fresh (suc h) lo hi (suc at)) =
    gap-written fresh lo hi lt short h (suc at) s room (λ j. let q : one j (fresh at) + (one j (fresh (suc at)) + spent fresh j h (suc (suc at))) ≤ 1 = d j in omega arith) in
    let s' : List ℕ = gap_write fresh (suc h) lo hi (suc at) s in
    let g : Forest = tree lo (gap_of fresh (suc h) lo hi (suc at)) end in
    let fit : fits (node (fresh at) lo hi g) ≡ true = gap-fits fresh lo hi lt (suc h) at short in
    let new : met_in (fresh at) g ≡ 0 = own (d (fresh at)) (gap-met fresh lo hi lt (fresh at) h (suc at)) in
    record {
      only = only-more fresh s s' (suc h) at (page_of (suc (suc h)) (node (fresh at) lo hi g)) (room at) (page_of-full (suc (suc h)) (node (fresh at) lo hi g) fit) ih.only;
      reads =
          node_done h s' (fresh at) lo hi g (omega (arith, room at, ih.only.size)) fit new
          (ap (tree_at (suc h) s') (gap-number fresh h lo hi (suc at)) ∙ ih.reads, tt);
    }
  where
    own : one (fresh at) (fresh at) + spent fresh (fresh at) (suc h) (suc at) ≤ 1
        → met (fresh at) (gap_of fresh (suc h) lo hi (suc at)) ≡ spent fresh (fresh at) (suc h) (suc at) → met (fresh at) (gap_of fresh (suc h) lo hi (suc at)) + 0 ≡ 0
    own a b = omega (arith, one_same (fresh at))

pub first_read : (under : ℕ → Tree) (f : Forest) (lo hi : List ℕ) → ReadsIn under f → sound_tree (first_of f) lo hi ≡ true → under (number_of (first_of f)) ≡ first_of f
unfolding ReadsIn first_of sound_tree
first_read under end lo hi r e = absurd (false≢true e)
first_read under (tree s t f) lo hi r e = r.0

-- trees whose numbers are the old ones and the first c new ones
module _ (fresh : ℕ → ℕ) (t : Tree) (N : ℕ) (D : (j : ℕ) → met j t + spent fresh j N 0 ≤ 1) where
  unfoldable pub Within : ℕ → Tree → Type 0
  Within c u = (j : ℕ) → met j u ≤ met j t + spent fresh j c 0

  unfoldable pub WithinIn : ℕ → Forest → Type 0
  WithinIn c f = (j : ℕ) → met_in j f ≤ met j t + spent fresh j c 0

  pub keep-read : (h : ℕ) (s s' : List ℕ) (u : Tree) (c b at : ℕ) → c ≤ at → at + b ≤ N → Within c u → Only fresh s s' b at → tree_at h s (number_of u) ≡ u → tree_at h s' (number_of u) ≡ u
  unfolding Within
  keep-read h s s' u c b at x y w o e = stays h s s' u e (λ j m. o.others j (omega (arith, w j, D j, spent-block fresh j c b at N x y)))

  pub keep-reads : (h : ℕ) (s s' : List ℕ) (f : Forest) (c b at : ℕ) → c ≤ at → at + b ≤ N → WithinIn c f → Only fresh s s' b at → ReadsIn (λ j. tree_at h s j) f
      → ReadsIn (λ j. tree_at h s' j) f
  unfolding WithinIn
  keep-reads h s s' f c b at x y w o e = stays-in h s s' f e (λ j m. o.others j (omega (arith, w j, D j, spent-block fresh j c b at N x y)))

  pub apart : (u : Tree) (c b at : ℕ) → c ≤ at → at + b ≤ N → Within c u → (j : ℕ) → met j u + spent fresh j b at ≤ 1
  unfolding Within
  apart u c b at x y w j = omega (arith, w j, D j, spent-block fresh j c b at N x y)

  pub within-left : (u : Tree) (c h : ℕ) (lo hi k : List ℕ) (at d : ℕ) → c ≤ at → d ≡ at + h → levelled u h ≡ true → Within c u → Within d (left_of fresh u lo hi k at)
  unfolding Within
  within-left u c h lo hi k at d x y e w j = omega (arith, w j, left-numbers j fresh u h lo hi k at e, spent-block fresh j c h at d x (omega arith))

  pub within-right : (v : Bool) (u : Tree) (c h : ℕ) (lo hi k : List ℕ) (at d : ℕ) → c ≤ at → d ≡ at + taken v h → levelled u h ≡ true → Within c u
      → WithinIn d (right_of fresh v u lo hi k at)
  unfolding Within WithinIn
  within-right v u c h lo hi k at d x y e w j =
      omega (arith, w j, right-numbers j fresh v u h lo hi k at e, spent-block fresh j c (taken v h) at d x (omega arith))

  pub within-self : Within 0 t
  unfolding Within
  within-self j = omega arith

  pub within-later : (u : Tree) (c d : ℕ) → c ≤ d → Within c u → Within d u
  unfolding Within
  within-later u c d x w j = omega (arith, w j, spent-mono fresh j c d 0 x)

  pub within-tail : (u v : Tree) (c h : ℕ) (hi k : List ℕ) (at d : ℕ) → ((j : ℕ) → met j v ≡ met_in j (right_of fresh false u [] hi k at)) → c ≤ at → d ≡ at + h
      → levelled u h ≡ true → Within c u → Within d v
  unfolding Within
  within-tail u v c h hi k at d m x y e w j =
      omega (arith, m j, w j, right-numbers j fresh false u h [] hi k at e, taken-one h, spent-block fresh j c (taken false h) at d x (omega (arith, taken-one h)))

pub gap_at : (fresh : ℕ → ℕ) (h k : ℕ) → h ≡ suc k → (q : List ℕ) → length q ≤ pivot_limit → (at : ℕ) (s : List ℕ) → ((x : ℕ) → 1024 * fresh x + 1024 ≤ length s)
    → ((j : ℕ) → spent fresh j h at ≤ 1) → LeftDone fresh s (gap_write fresh h q (past q) at s) h at (gap_of fresh h q (past q) at)
gap_at fresh h k e q short at s room d =
    subst (λ x. LeftDone fresh s (gap_write fresh x q (past q) at s) x at (gap_of fresh x q (past q) at)) (sym e)
    (gap-written fresh q (past q) (before-past q) short k at s room (λ j. subst (λ x. spent fresh j x at ≤ 1) e (d j)))

pub gap-number-at : (fresh : ℕ → ℕ) (h k : ℕ) → h ≡ suc k → (q : List ℕ) (at : ℕ) → number_of (gap_of fresh h q (past q) at) ≡ fresh at
gap-number-at fresh h k e q at = ap (λ x. number_of (gap_of fresh x q (past q) at)) e ∙ gap-number fresh k q (past q) at

pub node_at : (h k : ℕ) → h ≡ suc k → (s : List ℕ) (n : ℕ) (lo hi : List ℕ) (g : Forest) → 1024 * n + 1024 ≤ length s → fits (node n lo hi g) ≡ true → met_in n g ≡ 0
    → ReadsIn (λ j. tree_at h s j) g → tree_at (suc h) (write_node s n (page_of (suc h) (node n lo hi g))) n ≡ node n lo hi g
node_at h k e s n lo hi g room fit new r =
    subst (λ x. tree_at (suc x) (write_node s n (page_of (suc x) (node n lo hi g))) n ≡ node n lo hi g) (sym e)
    (node_done k s n lo hi g room fit new (subst (λ x. ReadsIn (λ j. tree_at x s j) g) e r))
