-- The pairs of a settled tree are its rows; and a tree with no message is settled.
use Rattle.std.specs.Prelude.{ℕ, suc, ◌+◌, ◌-◌, ◌≡◌, refl, List, [], ◌∷◌, ◌++◌, Bool, true, eqb, length}
use Rattle.image.specs.Prelude.{ap, ap₂, ◌∙◌, false≢true, arith, eqb-true, length-append}
use Rattle.image.specs.Bytes.{shared}
use Rattle.image.specs.Table.{Row, under_prefix}
use Rattle.image.specs.Image.{Tree, unread, leaf, interior, Forest, end, tree}
use Rattle.image.specs.Meaning.{high_of, apply_all, rows, rows_in}
use Rattle.image.specs.Upkeep.{Reachable, reachable, reachable_in, holds_no_message, every}
use Rattle.octets.specs.Order.{and_left, and_right}
use Rattle.laws.specs.Rising.{both}
use Rattle.laws.specs.Pieces.{still, still_in}

unfoldable mutual
  pub pair_count : Tree → ℕ
  pair_count (unread i) = 0
  pair_count (leaf i rs) = length rs
  pair_count (interior i f ms) = pair_count_in f

  pub pair_count_in : Forest → ℕ
  pair_count_in end = 0
  pair_count_in (tree s t f) = pair_count t + pair_count_in f

under-length : (l : List ℕ) (t : List Row) → length (under_prefix l t) ≡ length t
unfolding under_prefix
under-length l [] = refl
under-length l (r ∷ t) = ap suc (under-length l t)

mutual
  unfolding still still_in rows rows_in apply_all pair_count pair_count_in

  pub pairs-live : (t : Tree) (lo hi : List ℕ) → still t ≡ true → length (rows t lo hi) ≡ pair_count t
  pairs-live (unread i) lo hi q = refl
  pairs-live (leaf i rs) lo hi q = under-length (shared lo hi) rs
  pairs-live (interior i f []) lo hi q = pairs-live-in f (shared lo hi) hi q
  pairs-live (interior i f (m ∷ ms)) lo hi q = absurd (false≢true q)

  pub pairs-live-in : (f : Forest) (l hi : List ℕ) → still_in f ≡ true → length (rows_in f l hi) ≡ pair_count_in f
  pairs-live-in end l hi q = refl
  pairs-live-in (tree s t f) l hi q =
      length-append (rows t (l ++ s) (high_of l hi f)) (rows_in f l hi)
      ∙ ap₂ (λ x y. x + y) (pairs-live t (l ++ s) (high_of l hi f) (and_left _ _ q)) (pairs-live-in f l hi (and_right (still t) _ q))

pub every-both : (test : Reachable → Bool) (xs ys : List Reachable) → every test xs ≡ true → every test ys ≡ true → every test (xs ++ ys) ≡ true
unfolding every
every-both test [] ys a b = b
every-both test (x ∷ xs) ys a b = both (and_left (test x) _ a) (every-both test xs ys (and_right (test x) _ a) b)

mutual
  unfolding reachable reachable_in every holds_no_message still still_in

  pub still-quiet : (t : Tree) (l : ℕ) (lo hi : List ℕ) → still t ≡ true → every holds_no_message (reachable t l lo hi) ≡ true
  still-quiet (unread i) l lo hi q = refl
  still-quiet (leaf i rs) l lo hi q = refl
  still-quiet (interior i f []) l lo hi q = still-quiet-in f (l - 1) (shared lo hi) hi q
  still-quiet (interior i f (m ∷ ms)) l lo hi q = absurd (false≢true q)

  pub still-quiet-in : (f : Forest) (l : ℕ) (lifted hi : List ℕ) → still_in f ≡ true → every holds_no_message (reachable_in f l lifted hi) ≡ true
  still-quiet-in end l lifted hi q = refl
  still-quiet-in (tree s t f) l lifted hi q =
      every-both holds_no_message (reachable t l (lifted ++ s) (high_of lifted hi f)) (reachable_in f l lifted hi) (still-quiet t l (lifted ++ s) (high_of lifted hi f) (and_left _ _ q))
      (still-quiet-in f l lifted hi (and_right (still t) _ q))

-- and the other way
every-parts : (test : Reachable → Bool) (xs ys : List Reachable) → every test (xs ++ ys) ≡ true → (every test xs ≡ true) × (every test ys ≡ true)
unfolding every
every-parts test [] ys e = (refl, e)
every-parts test (x ∷ xs) ys e =
    let z : (every test xs ≡ true) × (every test ys ≡ true) = every-parts test xs ys (and_right (test x) _ e) in
    (both (and_left (test x) _ e) z.0, z.1)

mutual
  unfolding reachable reachable_in every holds_no_message still still_in

  pub quiet-still : (t : Tree) (l : ℕ) (lo hi : List ℕ) → every holds_no_message (reachable t l lo hi) ≡ true → still t ≡ true
  quiet-still (unread i) l lo hi e = refl
  quiet-still (leaf i rs) l lo hi e = refl
  quiet-still (interior i f []) l lo hi e = quiet-still-in f (l - 1) (shared lo hi) hi e
  quiet-still (interior i f (m ∷ ms)) l lo hi e = absurd (never (length ms) (and_left _ _ e))
    where
      never : (n : ℕ) → eqb (suc n) 0 ≡ true → ⊥
      never n q = let z : suc n ≡ 0 = eqb-true (suc n) 0 q in omega arith

  pub quiet-still-in : (f : Forest) (l : ℕ) (lifted hi : List ℕ) → every holds_no_message (reachable_in f l lifted hi) ≡ true → still_in f ≡ true
  quiet-still-in end l lifted hi e = refl
  quiet-still-in (tree s t f) l lifted hi e =
      both (quiet-still t l (lifted ++ s) (high_of lifted hi f) (every-parts holds_no_message (reachable t l (lifted ++ s) (high_of lifted hi f)) (reachable_in f l lifted hi) e).0)
      (quiet-still-in f l lifted hi (every-parts holds_no_message (reachable t l (lifted ++ s) (high_of lifted hi f)) (reachable_in f l lifted hi) e).1)
