-- The slices of a settled tree at a cut k strictly inside its range. New nodes take their numbers from `fresh`, the list of free nodes, from place
-- `at` on.
use Rattle.std.specs.Prelude.{ℕ, suc, List, [], ◌++◌, Bool, true, false, cond}
use Rattle.image.specs.Bytes.{before, shared}
use Rattle.image.specs.Table.{under_prefix}
use Rattle.image.specs.Image.{Tree, unread, leaf, interior, Forest, end, tree}
use Rattle.image.specs.Meaning.{high_of}
use Rattle.laws.specs.Filter.{keep, up_to, since, lower_rows}
use Rattle.laws.specs.Pieces.{joined, raise, node, over}

-- Of the children f of a node that lifts `lifted` and ends at hi, with full pivots: those from k on, but for the child that holds k strictly inside.
unfoldable pub rest_in : Forest → List ℕ → List ℕ → List ℕ → Forest
rest_in end lifted hi k = end
rest_in (tree s t f) lifted hi k =
    cond (before k (high_of lifted hi f))
    (cond (before (lifted ++ s) k) (raise lifted f) (tree (lifted ++ s) t (raise lifted f)))
    (rest_in f lifted hi k)

-- Nodes over the pieces of the child that was sliced (the edge) and the children after it (the rest): two nodes, or one.
unfoldable pub packed : Bool → ℕ → ℕ → List ℕ → List ℕ → Forest → Forest → Forest
packed true n m k hi e r = joined (over n k (high_of [] hi r) e) (over m (high_of [] hi r) hi r)
packed false n m k hi e r = over n k hi (joined e r)

-- the place after the numbers that a level takes
unfoldable pub after : Bool → ℕ → ℕ
after w at = cond w (suc (suc at)) (suc at)

module _ (fresh : ℕ → ℕ) where
  -- what lies before k: one node a level
  unfoldable mutual
    pub left_of : Tree → List ℕ → List ℕ → List ℕ → ℕ → Tree
    left_of (unread i) lo hi k at = unread i
    left_of (leaf i rs) lo hi k at = leaf (fresh at) (lower_rows (shared lo k) (keep (up_to k) (under_prefix (shared lo hi) rs)))
    left_of (interior i f ms) lo hi k at = node (fresh at) lo k (left_in f (shared lo hi) hi k (suc at))

    pub left_in : Forest → List ℕ → List ℕ → List ℕ → ℕ → Forest
    left_in end lifted hi k at = end
    left_in (tree s t f) lifted hi k at =
        cond (before k (high_of lifted hi f))
        (cond (before (lifted ++ s) k) (tree (lifted ++ s) (left_of t (lifted ++ s) (high_of lifted hi f) k at) end) end)
        (tree (lifted ++ s) t (left_in f lifted hi k at))

  -- what lies from k on, as pieces with full pivots: wide, an edge and a rest a level; else one node a level
  unfoldable mutual
    pub right_of : Bool → Tree → List ℕ → List ℕ → List ℕ → ℕ → Forest
    right_of w (unread i) lo hi k at = end
    right_of w (leaf i rs) lo hi k at =
        tree k (leaf (fresh at) (lower_rows (shared k hi) (keep (since k) (under_prefix (shared lo hi) rs)))) end
    right_of w (interior i f ms) lo hi k at =
        packed w (fresh at) (fresh (suc at)) k hi (edge_in w f (shared lo hi) hi k (after w at)) (rest_in f (shared lo hi) hi k)

    pub edge_in : Bool → Forest → List ℕ → List ℕ → List ℕ → ℕ → Forest
    edge_in w end lifted hi k at = end
    edge_in w (tree s t f) lifted hi k at =
        cond (before k (high_of lifted hi f))
        (cond (before (lifted ++ s) k) (right_of w t (lifted ++ s) (high_of lifted hi f) k at) end)
        (edge_in w f lifted hi k at)
