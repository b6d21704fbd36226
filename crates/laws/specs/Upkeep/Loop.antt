-- Merging again and again until no two neighbouring children would fit in one node.
use Rattle.std.specs.Prelude.{ℕ, suc, ◌≡◌, refl, List, ◌++◌, Bool, true, false, ◌&&◌, not}
use Rattle.image.specs.Prelude.{ap, subst, true≢false, arith, eqb-true, leb-true}
use Rattle.image.specs.Image.{Tree, unread, leaf, interior, Forest, end, tree}
use Rattle.image.specs.Meaning.{high_of}
use Rattle.image.specs.Upkeep.{would_fit, unmergeable}
use Rattle.octets.specs.Order.{and_left}
use Rattle.laws.specs.Upkeep.Merge.{same_kind, tall, tall_in}
use Rattle.laws.specs.Upkeep.Mends.{tall-first, tall-later}
use Rattle.laws.specs.Upkeep.Join.{joins, join_at, first_pair, branch_count}

-- nodes of one level are of one kind
pub one-kind : (t u : Tree) (level : ℕ) → tall t level ≡ true → tall u level ≡ true → same_kind t u ≡ true
unfolding tall same_kind
one-kind (unread i) u level a b = a
one-kind (leaf i rs) (unread j) level a b = b
one-kind (leaf i rs) (leaf j qs) level a b = refl
one-kind (leaf i rs) (interior j g ns) level a b = absurd (omega (arith, eqb-true level 1 a, leb-true 2 level (and_left _ _ b)))
one-kind (interior i f ms) (unread j) level a b = b
one-kind (interior i f ms) (leaf j qs) level a b = absurd (omega (arith, eqb-true level 1 b, leb-true 2 level (and_left _ _ a)))
one-kind (interior i f ms) (interior j g ns) level a b = refl

-- where one does, there is a child less
pub join-less : (f : Forest) (lifted hi : List ℕ) (level : ℕ) → tall_in f level ≡ true → unmergeable f lifted hi ≡ false
    → suc (branch_count (join_at (first_pair f lifted hi) f lifted hi)) ≡ branch_count f
unfolding unmergeable first_pair join_at joins branch_count
join-less end lifted hi level h e = absurd (true≢false e)
join-less (tree s t end) lifted hi level h e = absurd (true≢false e)
join-less (tree s t (tree q u f)) lifted hi level h e =
    go (would_fit t u (lifted ++ s) (lifted ++ q) (high_of lifted hi f)) refl
    (λ x. join-less (tree q u f) lifted hi level (tall-later s t (tree q u f) level h) x)
  where
    kind : same_kind t u ≡ true
    kind = one-kind t u level (tall-first s t (tree q u f) level h) (tall-first q u f level (tall-later s t (tree q u f) level h))

    go : (x : Bool) → would_fit t u (lifted ++ s) (lifted ++ q) (high_of lifted hi f) ≡ x
        → (unmergeable (tree q u f) lifted hi ≡ false → suc (branch_count (join_at (first_pair (tree q u f) lifted hi) (tree q u f) lifted hi)) ≡ branch_count (tree q u f))
        → suc (branch_count (join_at (first_pair (tree s t (tree q u f)) lifted hi) (tree s t (tree q u f)) lifted hi)) ≡ suc (suc (branch_count f))
    go true a ih = rw (kind, a) (rw (kind, a))
    go false a ih = rw (kind, a) (ap suc (ih (subst (λ x. not x && unmergeable (tree q u f) lifted hi ≡ false) a e)))
