-- The rules of heal and flush on images, as a loop of code meets them.
use Rattle.std.specs.Prelude.{ℕ, zero, suc, ◌≡◌, refl, List, ◌++◌, Bool, true, false, ◌&&◌, not}
use Rattle.image.specs.Prelude.{sym, ap, subst, ◌∙◌, true≢false}
use Rattle.image.specs.Image.{Forest, end, tree, tree_of}
use Rattle.image.specs.Meaning.{high_of}
use Rattle.image.specs.Sound.{lowest, highest}
use Rattle.image.specs.Upkeep.{would_fit, unmergeable}
use Rattle.laws.specs.Upkeep.Merge.{same_kind, tall_in}
use Rattle.laws.specs.Upkeep.Mends.{tall-first, tall-later}
use Rattle.laws.specs.Upkeep.Join.{joins, first_pair, mended}
use Rattle.laws.specs.Upkeep.Loop.{one-kind}
use Rattle.laws.specs.Upkeep.Alter.{altered, on_branches}
use Rattle.laws.specs.Upkeep.Steps.{stepped, step-tree, start-tree}
use Rattle.laws.specs.Upkeep.HealImage.{pair_at}

-- the search finds a pair just where two neighbours would fit
pub first-pair : (f : Forest) (lifted hi : List ℕ) (level : ℕ) → tall_in f level ≡ true → unmergeable f lifted hi ≡ false → pair_at (first_pair f lifted hi) f lifted hi ≡ true
unfolding unmergeable first_pair pair_at joins
first-pair end lifted hi level h e = absurd (true≢false e)
first-pair (tree s t end) lifted hi level h e = absurd (true≢false e)
first-pair (tree s t (tree q u f)) lifted hi level h e =
    go (would_fit t u (lifted ++ s) (lifted ++ q) (high_of lifted hi f)) refl (λ x. first-pair (tree q u f) lifted hi level (tall-later s t (tree q u f) level h) x)
  where
    kind : same_kind t u ≡ true
    kind = one-kind t u level (tall-first s t (tree q u f) level h) (tall-first q u f level (tall-later s t (tree q u f) level h))

    go : (x : Bool) → would_fit t u (lifted ++ s) (lifted ++ q) (high_of lifted hi f) ≡ x
        → (unmergeable (tree q u f) lifted hi ≡ false → pair_at (first_pair (tree q u f) lifted hi) (tree q u f) lifted hi ≡ true)
        → pair_at (first_pair (tree s t (tree q u f)) lifted hi) (tree s t (tree q u f)) lifted hi ≡ true
    go true a ih = rw (kind, a) (rw (kind, a))
    go false a ih = rw (kind, a) (ih (subst (λ x. not x && unmergeable (tree q u f) lifted hi ≡ false) a e))

-- THE LOOP: s is the image at the start, r the one now, j steps later
pub loop-starts : (s : List ℕ) (n : ℕ) → tree_of s ≡ altered (tree_of s) n (on_branches (mended zero)) lowest highest
loop-starts s n = sym (start-tree (tree_of s) n lowest highest)

pub loop-goes : (s r r' : List ℕ) (n j : ℕ) → tree_of r ≡ altered (tree_of s) n (on_branches (mended j)) lowest highest
    → tree_of r' ≡ altered (tree_of r) n (on_branches stepped) lowest highest → tree_of r' ≡ altered (tree_of s) n (on_branches (mended (suc j))) lowest highest
loop-goes s r r' n j e k = k ∙ ap (λ t. altered t n (on_branches stepped) lowest highest) e ∙ step-tree (tree_of s) n j lowest highest
