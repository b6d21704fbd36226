-- The part of a node from a cut on, by the point where the cut falls: its pieces, which are at most two, and the entries of their pages.
-- Definitions only.
use Rattle.std.specs.Prelude.{ℕ, ◌+◌, ◌*◌, ◌<◌, ◌≤◌, ◌≡◌, List, [], ◌∷◌, ◌++◌, Bool, true, false, ◌||◌, cond, length, take, drop, eqb, Option, None, Some, is_some, MatchOption}
use Rattle.image.specs.Bytes.{before, shared}
use Rattle.image.specs.Entry as defined
use Rattle.image.specs.Image.{Tree, Forest, end, Branch, nodes_of, tree_at}
use Rattle.laws.specs.Encode.{bytes_of}
use Rattle.laws.specs.Page.{page, branches_of}
use Rattle.laws.specs.WriteNode.{write_node}
use Rattle.laws.specs.Reading.Relative.{branch_high, usable}
use Rattle.node.specs.Search.Own.{branch}
use Rattle.push.specs.Laws.Written.{small_numbers}
use Rattle.slice.specs.Slicing.Slice.{right_of}
use Rattle.slice.specs.Slicing.SliceFits.{fits_in}
use Rattle.slice.specs.Slicing.RightWrite.{right_write}
use Rattle.slice.specs.declared.Parts.{Parts}
use Rattle.slice.specs.Point.{Point, within, between, nowhere, fresh_in}

-- the children from the cut on, but for the one that holds it
unfoldable pub rest_of : List Branch → List ℕ → List ℕ → List Branch
rest_of [] hi k = []
rest_of (c ∷ cs) hi k = cond (before k (branch_high hi cs)) (cond (before c.pivot k) cs (c ∷ cs)) (rest_of cs hi k)

-- the pieces of the child that holds the cut, and the image with them
unfoldable pub edge_at : (ℕ → ℕ) → Bool → (ℕ → Tree) → List ℕ → ℕ → Point → Forest
edge_at fresh w under k at (within n i low high) = right_of fresh w (under i) low high k at
edge_at fresh w under k at (between n low) = end
edge_at fresh w under k at (nowhere n) = end

unfoldable pub right_at : (ℕ → ℕ) → Bool → (ℕ → Tree) → ℕ → List ℕ → ℕ → List ℕ → Point → List ℕ
right_at fresh w under h k at s (within n i low high) = right_write fresh w (under i) h low high k at s
right_at fresh w under h k at s (between n low) = s
right_at fresh w under h k at s (nowhere n) = s

-- what the code answers: the pieces with the first two numbers from `at` on, the pivot of the second in a buffer
unfoldable pub edge_piece : ℕ → List ℕ → Bool → List Branch
edge_piece a k true = branch a k ∷ []
edge_piece a k false = []

unfoldable pub rest_piece : ℕ → List ℕ → Option ℕ → List Branch
rest_piece b out None = []
rest_piece b out (Some n) = branch b (take n out) ∷ []

unfoldable pub pieces_in : ℕ → ℕ → List ℕ → List ℕ → Parts → List Branch
pieces_in a b k out p = edge_piece a k p.edge ++ rest_piece b out p.rest

abbrev pub PartsFit : ℕ → Parts → Type 0
PartsFit m p = MatchOption p.rest Unit (λ n. n ≤ m)

abbrev pub no_parts : Parts
no_parts = record { edge = false; rest = None }

abbrev pub edge_part : Parts
edge_part = record { edge = true; rest = None }

unfoldable pub raise_branches : List ℕ → List Branch → List Branch
raise_branches l [] = []
raise_branches l (c ∷ cs) = branch c.number (l ++ c.pivot) ∷ raise_branches l cs

-- the entries of all these children, each pivot without its first d bytes
unfoldable pub all_line : ℕ → List Branch → List ℕ
all_line d [] = []
all_line d (c ∷ cs) = bytes_of (defined.child c.number (drop d c.pivot)) ++ all_line d cs

-- a node with these entries, if there are any
unfoldable pub over_body : ℕ → ℕ → List ℕ → List ℕ → List ℕ
over_body n h body s = cond (eqb (length body) 0) s (write_node s n (page 2 h body))

-- an edge and a rest over these children, as nodes n and m, which lift d and e bytes
unfoldable pub two_body : ℕ → ℕ → ℕ → ℕ → ℕ → List Branch → List Branch → List ℕ → List ℕ
two_body n m h d e eks rks s = over_body m h (all_line e rks) (over_body n h (all_line d eks) s)

-- the same, told by their pivots
unfoldable pub wide_body : ℕ → ℕ → ℕ → List ℕ → List ℕ → List ℕ → List Branch → List Branch → List ℕ → List ℕ
wide_body n m h k hi x eks rks s = two_body n m h (length (shared k x)) (length (shared x hi)) eks rks s

-- whether there are pieces, and the answer of a node, by that of its child, with a rest and without
unfoldable pub has_any : Parts → Bool
has_any p = p.edge || is_some p.rest

unfoldable pub with_rest : ℕ → Parts → Parts
with_rest n p = record { edge = has_any p; rest = Some n }

unfoldable pub edge_only : Parts → Parts
edge_only p = record { edge = has_any p; rest = None }

-- what is told of an edge and of a rest over these children: without a rest, and with one, whose pivot is in the buffer
unfoldable pub both_told : List Branch → Parts → List ℕ → List ℕ → Parts → Type 0
both_told [] below lift out r = r ≡ edge_only below
both_told (c ∷ cs) below lift out r =
    (r ≡ with_rest (length lift + length c.pivot) below) × (length lift + length c.pivot ≤ length out)
    × (take (length lift + length c.pivot) out ≡ lift ++ c.pivot)

-- the one piece of a node over these children
unfoldable pub one_node : List Branch → Parts
one_node [] = no_parts
one_node (c ∷ cs) = edge_part

unfoldable pub head_branch : ℕ → List ℕ → List Branch → List Branch
head_branch n lo [] = []
head_branch n lo (c ∷ cs) = branch n lo ∷ []

pub record RightAsks (w : Bool) (s : List ℕ) (num level : ℕ) (lo hi k : List ℕ) (at : ℕ) (free : List ℕ) : Type 0 where
  pub reads : usable (nodes_of (length s)) (tree_at level s num) ≡ true
  pub small : fits_in (right_of (fresh_in free) w (tree_at level s num) lo hi k at) ≡ true
  pub above : before lo k ≡ true
  pub below : before k hi ≡ true
  pub few : nodes_of (length s) ≤ 1024
  pub levels : level ≤ 8
  pub enough : at + 2 * level ≤ length free
  pub room : (i : ℕ) → i < at + 2 * level → fresh_in free i * 1024 + 1024 ≤ length s

-- a right part written, and its pieces told
pub record RightAs (w : Bool) (t : Tree) (level : ℕ) (lo hi k : List ℕ) (at : ℕ) (free lift s s' out : List ℕ) (r : Parts) : Type 0 where
  pub written : s' ≡ right_write (fresh_in free) w t level lo hi k at s
  pub pieces : raise_branches lift (branches_of (right_of (fresh_in free) w t lo hi k at)) ≡ pieces_in (fresh_in free at) (fresh_in free (at + 1)) (lift ++ k) out r
  pub fit : PartsFit (length out) r

pub record EdgeAs (w : Bool) (level : ℕ) (k : List ℕ) (at : ℕ) (free s s' out : List ℕ) (x : Point) (r : Parts) : Type 0 where
  pub written : s' ≡ right_at (fresh_in free) w (λ j. tree_at level s j) level k at s x
  pub pieces : branches_of (edge_at (fresh_in free) w (λ j. tree_at level s j) k at x) ≡ pieces_in (fresh_in free at) (fresh_in free (at + 1)) k out r
  pub fit : PartsFit (length out) r

-- what the two nodes of a level ask, whose children from the cut on are rks, and the one
pub record WideAsks (size level : ℕ) (rks : List Branch) (hi k : List ℕ) (below : Parts) (out : List ℕ) (at : ℕ) (free : List ℕ) : Type 0 where
  pub levels : level ≤ 8
  pub enough : at + 4 ≤ length free
  pub room : (i : ℕ) → i < at + 4 → fresh_in free i * 1024 + 1024 ≤ size
  pub fit : PartsFit (length out) below
  pub numbers : small_numbers rks ≡ true
  pub edge_fits : length (all_line (length (shared k (branch_high hi rks))) (pieces_in (fresh_in free (at + 2)) (fresh_in free (at + 3)) k out below)) ≤ 1016
  pub rest_fits : length (all_line (length (shared (branch_high hi rks) hi)) rks) ≤ 1016

pub record NarrowAsks (size level : ℕ) (rks : List Branch) (hi k : List ℕ) (below : Parts) (out : List ℕ) (at : ℕ) (free : List ℕ) : Type 0 where
  pub levels : level ≤ 8
  pub enough : at + 3 ≤ length free
  pub room : (i : ℕ) → i < at + 3 → fresh_in free i * 1024 + 1024 ≤ size
  pub fit : PartsFit (length out) below
  pub numbers : small_numbers rks ≡ true
  pub all_fit : length (all_line (length (shared k hi)) (pieces_in (fresh_in free (at + 1)) (fresh_in free (at + 2)) k out below ++ rks)) ≤ 1016
