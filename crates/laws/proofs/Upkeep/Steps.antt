-- Heal as a loop of code takes it: a step merges the first pair that fits; after each step the tree is the first one with node n's children
-- mended so often; and where the search finds no pair, heal's rule holds.
-- The laws of specs/Upkeep/Steps that rest on a definition which a must-fail edit changes.
use Rattle.std.specs.Prelude.{ℕ, ◌-◌, ◌≡◌, List, Bool, true}
use Rattle.image.specs.Prelude.{sym, ap, ◌∙◌, some}
use Rattle.image.specs.Bytes.{shared}
use Rattle.image.specs.Image.{Tree}
use Rattle.image.specs.Sound.{sound_tree, numbers, is_in, once}
use Rattle.image.specs.Upkeep.{Reachable, reachable, reachable_at, unmergeable_at, keeps_range, healed}
use Rattle.laws.specs.Rising.{both}
use Rattle.laws.specs.LookupTable.{inner}
use Rattle.laws.specs.Upkeep.Kept.{numbers-places, kept-no-gain}
use Rattle.laws.specs.Upkeep.Merge.{tall}
use Rattle.laws.specs.Upkeep.Mends.{tall-branches}
use Rattle.laws.specs.Upkeep.Join.{mended}
use Rattle.laws.proofs.Upkeep.Loop.{mended-kept}
use Rattle.laws.specs.Upkeep.Alter.{altered, on_branches, Gentle, altered-kept, heads_at, node_kept}
use Rattle.laws.specs.Upkeep.Healed.{rechilded, rechild, place-altered, place-number}
use Rattle.laws.specs.Upkeep.Steps.{mended-end, range-by}

pub mended-gentle : (among : ℕ → Bool) (j : ℕ) → Gentle among (on_branches (mended j))
unfolding Gentle on_branches
mended-gentle among j i f ms lo hi level e h a =
    node_kept among i f (mended j f (shared lo hi) hi) ms lo hi level
    (mended-kept among j f (shared lo hi) lo hi (level - 1) (inner i f ms lo hi e).branches (tall-branches i f ms level h) a)

-- The loop ends where no pair of node n's children fits: heal's rule holds then.
pub ended : (t : Tree) (n j : ℕ) (lo hi : List ℕ) (level : ℕ) (x : Reachable) → sound_tree t lo hi ≡ true → tall t level ≡ true → once (numbers t) ≡ true
    → reachable_at n (reachable t level lo hi) ≡ some x → unmergeable_at (rechilded (mended j) x) ≡ true
    → healed x (reachable t level lo hi) (reachable (altered t n (on_branches (mended j)) lo hi) level lo hi) ≡ true
unfolding healed rechild
ended t n j lo hi level x e h o p g =
    let after : List Reachable = reachable (altered t n (on_branches (mended j)) lo hi) level lo hi in
    let name : n ≡ x.number = place-number n (reachable t level lo hi) x p in
    let there : reachable_at x.number after ≡ some (rechilded (mended j) x) =
    ap (λ k. reachable_at k after) (sym name) ∙ place-altered t n (mended j) (mended-end j) level lo hi ∙ ap (rechild (mended j)) p in
    let range : keeps_range x (reachable_at x.number after) ≡ true = ap (keeps_range x) there ∙ range-by (mended j) x g in
    both range
    (kept-no-gain (λ i. is_in i (heads_at t n)) (reachable t level lo hi) after (ap once (numbers-places t level lo hi e) ∙ o)
    (altered-kept t n (on_branches (mended j)) (λ i. is_in i (heads_at t n)) (mended-gentle (λ i. is_in i (heads_at t n)) j) lo hi level e h (λ i b. b)))
