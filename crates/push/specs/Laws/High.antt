-- The high pivot of a node without what the node lifts, found from the root down. Definitions only; HighLaws joins it to `reachable_at`.
use Rattle.std.specs.Prelude.{ℕ, List, [], cond, drop, eqb}
use Rattle.image.specs.Prelude.{Option, none, some}
use Rattle.image.specs.Image.{Tree, unread, leaf, interior, Forest, end, tree}
use Rattle.image.specs.Meaning.{high_of}
use Rattle.laws.specs.Reading.Relative.{lifts}

unfoldable pub or_else : Option (List ℕ) → Option (List ℕ) → Option (List ℕ)
or_else none y = y
or_else (some x) y = some x

-- for the interior node n in the tree of a node whose pivots lo and hi are without what its parent lifts
unfoldable mutual
  pub high_here : ℕ → Tree → List ℕ → List ℕ → Option (List ℕ)
  high_here n (unread i) lo hi = none
  high_here n (leaf i rs) lo hi = none
  high_here n (interior i f ms) lo hi = cond (eqb n i) (some (drop (lifts lo hi) hi)) (high_in n f (drop (lifts lo hi) hi))

  pub high_in : ℕ → Forest → List ℕ → Option (List ℕ)
  high_in n end hi = none
  high_in n (tree s t f) hi = or_else (high_here n t s (high_of [] hi f)) (high_in n f hi)
