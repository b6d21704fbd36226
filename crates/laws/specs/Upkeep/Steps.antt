-- Heal as a loop of code takes it: a step merges the first pair that fits; after each step the tree is the first one with node n's children
-- mended so often; and where the search finds no pair, heal's rule holds.
use Rattle.std.specs.Prelude.{ℕ, zero, suc, ◌≡◌, refl, List, ◌++◌, Bool, true, false, cond, eqb}
use Rattle.image.specs.Prelude.{ap, ap₂, fun_ext, ◌∙◌, some, eq-eqb}
use Rattle.image.specs.Bytes.{shared}
use Rattle.image.specs.Entry.{Message}
use Rattle.image.specs.Image.{Tree, unread, leaf, interior, Forest, end, tree}
use Rattle.image.specs.Meaning.{high_of}
use Rattle.image.specs.Upkeep.{Reachable, unmergeable_at, keeps_range}
use Rattle.octets.specs.Order.{same_refl}
use Rattle.laws.specs.Rising.{both}
use Rattle.laws.specs.Upkeep.Join.{join_at, first_pair, mended}
use Rattle.laws.specs.Upkeep.Alter.{altered, altered_in, on_branches, then_branches, altered-twice}
use Rattle.laws.specs.Upkeep.Healed.{rechilded}

unfoldable pub stepped : Forest → List ℕ → List ℕ → Forest
stepped f lifted hi = join_at (first_pair f lifted hi) f lifted hi

-- one step more, at the end
pub mended-last : (j : ℕ) (f : Forest) (lifted hi : List ℕ) → stepped (mended j f lifted hi) lifted hi ≡ mended (suc j) f lifted hi
unfolding mended stepped
mended-last zero f lifted hi = refl
mended-last (suc j) f lifted hi = mended-last j (join_at (first_pair f lifted hi) f lifted hi) lifted hi

mended-then : (j : ℕ) → then_branches (mended j) stepped ≡ mended (suc j)
unfolding then_branches
mended-then j = fun_ext (λ f. fun_ext (λ l. fun_ext (λ h. mended-last j f l h)))

-- the loop starts with the tree itself, and each step adds one
choice-same : (b : Bool) (i : ℕ) (f g : Forest) (ms : List Message) (lo hi : List ℕ) → g ≡ f
    → cond b (on_branches (mended zero) (interior i f ms) lo hi) (interior i g ms) ≡ interior i f ms
unfolding on_branches mended
choice-same true i f g ms lo hi e = refl
choice-same false i f g ms lo hi e = ap (λ x. interior i x ms) e

mutual
  unfolding altered altered_in

  pub start-tree : (t : Tree) (n : ℕ) (lo hi : List ℕ) → altered t n (on_branches (mended zero)) lo hi ≡ t
  start-tree (unread i) n lo hi = refl
  start-tree (leaf i rs) n lo hi = refl
  start-tree (interior i f ms) n lo hi = choice-same (eqb n i) i f (altered_in f n (on_branches (mended zero)) (shared lo hi) hi) ms lo hi (start-forest f n (shared lo hi) hi)

  start-forest : (f : Forest) (n : ℕ) (lifted hi : List ℕ) → altered_in f n (on_branches (mended zero)) lifted hi ≡ f
  start-forest end n lifted hi = refl
  start-forest (tree s t f) n lifted hi = ap₂ (λ a b. tree s a b) (start-tree t n (lifted ++ s) (high_of lifted hi f)) (start-forest f n lifted hi)

pub step-tree : (t : Tree) (n j : ℕ) (lo hi : List ℕ)
    → altered (altered t n (on_branches (mended j)) lo hi) n (on_branches stepped) lo hi ≡ altered t n (on_branches (mended (suc j))) lo hi
step-tree t n j lo hi = altered-twice t n (mended j) stepped lo hi ∙ ap (λ c. altered t n (on_branches c) lo hi) (mended-then j)

pub mended-end : (j : ℕ) (l h : List ℕ) → mended j end l h ≡ end
unfolding mended join_at first_pair
mended-end zero l h = refl
mended-end (suc j) l h = mended-end j l h

pub range-by : (c : Forest → List ℕ → List ℕ → Forest) (x : Reachable) → unmergeable_at (rechilded c x) ≡ true → keeps_range x (some (rechilded c x)) ≡ true
unfolding keeps_range rechilded
range-by c x g = both (both (both (eq-eqb x.level x.level refl) (same_refl x.low)) (same_refl x.high)) g
