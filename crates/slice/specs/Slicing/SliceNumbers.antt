-- The node numbers of the two parts of a cut: each number stands in them at most as often as in the whole and among the new ones.
use Rattle.std.specs.Prelude.{ℕ, zero, suc, ◌+◌, ◌≤◌, ◌≡◌, refl, List, [], ◌∷◌, ◌++◌, Bool, true, false, cond, eqb}
use Rattle.image.specs.Prelude.{ap, ap₂, ◌∙◌, false≢true, arith, eqb-true, ne_eqb, eq-eqb, cases}
use Rattle.image.specs.Bytes.{before, shared}
use Rattle.image.specs.Entry.{Message}
use Rattle.image.specs.Table.{Row}
use Rattle.image.specs.Image.{Tree, unread, leaf, interior, Forest, end, tree}
use Rattle.image.specs.Meaning.{high_of}
use Rattle.image.specs.Sound.{numbers, numbers_in, is_in, once}
use Rattle.octets.specs.Order.{and_left, and_right, not-false}
use Rattle.laws.specs.Rising.{both}
use Rattle.laws.specs.Pieces.{levelled, levelled_in, joined, raise, lower, node, over}
use Rattle.slice.specs.Slicing.Slice.{rest_in, packed, after, left_of, left_in, right_of, edge_in}

-- how often j stands in a list
unfoldable pub one : ℕ → ℕ → ℕ
one j i = cond (eqb j i) 1 0

unfoldable pub hits : ℕ → List ℕ → ℕ
hits j [] = 0
hits j (i ∷ is) = one j i + hits j is

pub hits-append : (j : ℕ) (is js : List ℕ) → hits j (is ++ js) ≡ hits j is + hits j js
unfolding hits
hits-append j [] js = omega arith
hits-append j (i ∷ is) js = rw (hits-append j is js) (omega arith)

-- how often j is the number of a node
unfoldable mutual
  pub met : ℕ → Tree → ℕ
  met j (unread i) = one j i
  met j (leaf i rs) = one j i
  met j (interior i f ms) = one j i + met_in j f

  pub met_in : ℕ → Forest → ℕ
  met_in j end = 0
  met_in j (tree s t f) = met j t + met_in j f

mutual
  unfolding met met_in numbers numbers_in hits

  pub hits-met : (j : ℕ) (t : Tree) → hits j (numbers t) ≡ met j t
  hits-met j (unread i) = omega arith
  hits-met j (leaf i rs) = omega arith
  hits-met j (interior i f ms) = ap (λ x. one j i + x) (hits-met-in j f)

  pub hits-met-in : (j : ℕ) (f : Forest) → hits j (numbers_in f) ≡ met_in j f
  hits-met-in j end = refl
  hits-met-in j (tree s t f) = hits-append j (numbers t) (numbers_in f) ∙ ap₂ (λ x y. x + y) (hits-met j t) (hits-met-in j f)

-- how often j is one of the c new numbers from place `at` on
unfoldable pub spent : (ℕ → ℕ) → ℕ → ℕ → ℕ → ℕ
spent fresh j zero at = 0
spent fresh j (suc c) at = one j (fresh at) + spent fresh j c (suc at)

-- how many numbers a right part of h levels may take
unfoldable pub taken : Bool → ℕ → ℕ
taken w zero = 0
taken w (suc h) = after w (taken w h)

module _ (j : ℕ) where
  pub met-raise : (l : List ℕ) (f : Forest) → met_in j (raise l f) ≡ met_in j f
  unfolding met_in raise
  met-raise l end = refl
  met-raise l (tree s t f) = rw (met-raise l f)

  pub met-lower : (l : List ℕ) (f : Forest) → met_in j (lower l f) ≡ met_in j f
  unfolding met_in lower
  met-lower l end = refl
  met-lower l (tree s t f) = rw (met-lower l f)

  pub met-joined : (f g : Forest) → met_in j (joined f g) ≡ met_in j f + met_in j g
  unfolding met_in joined
  met-joined end g = omega arith
  met-joined (tree s t f) g = rw (met-joined f g) (omega arith)

  pub met-node : (n : ℕ) (lo hi : List ℕ) (f : Forest) → met j (node n lo hi f) ≡ one j n + met_in j f
  unfolding met node
  met-node n lo hi f = ap (λ x. one j n + x) (met-lower (shared lo hi) f)

  pub met-over : (n : ℕ) (lo hi : List ℕ) (f : Forest) → met_in j (over n lo hi f) ≤ one j n + met_in j f
  unfolding over met_in
  met-over n lo hi end = omega arith
  met-over n lo hi (tree s t f) = omega (arith, met-node n lo hi (tree s t f))

  met-packed : (w : Bool) (fresh : ℕ → ℕ) (at c : ℕ) (k hi : List ℕ) (e r : Forest)
      → met_in j (packed w (fresh at) (fresh (suc at)) k hi e r) + spent fresh j c (after w at) ≤ met_in j e + met_in j r + spent fresh j (after w c) at
  unfolding packed spent after
  met-packed true fresh at c k hi e r =
      rw (met-joined (over (fresh at) k (high_of [] hi r) e) (over (fresh (suc at)) (high_of [] hi r) hi r))
      (omega (arith, met-over (fresh at) k (high_of [] hi r) e, met-over (fresh (suc at)) (high_of [] hi r) hi r))
  met-packed false fresh at c k hi e r = omega (arith, met-over (fresh at) k hi (joined e r), met-joined e r)

  module _ (fresh fresh' : ℕ → ℕ) (w : Bool) where
    spent-leaf : (at h : ℕ) → one j (fresh' at) ≤ spent fresh' j (taken w (suc h)) at
    unfolding spent taken after
    spent-leaf at h = go w
      where
        go : (v : Bool) → one j (fresh' at) ≤ spent fresh' j (taken v (suc h)) at
        go true = omega arith
        go false = omega arith

    leaf-numbers : (i : ℕ) (rs : List Row) (h : ℕ) (lo hi k : List ℕ) (at at' : ℕ) → levelled (leaf i rs) h ≡ true
        → met j (left_of fresh (leaf i rs) lo hi k at) + met_in j (right_of fresh' w (leaf i rs) lo hi k at')
        ≤ met j (leaf i rs) + spent fresh j h at + spent fresh' j (taken w h) at'
    unfolding left_of right_of met levelled spent
    leaf-numbers i rs h lo hi k at at' e = rw (eqb-true h 1 e) (omega (arith, spent-leaf at' 0))

    inner-numbers : (i : ℕ) (f : Forest) (ms : List Message) (h : ℕ) (lo hi k : List ℕ) (at at' : ℕ)
        → met_in j (left_in fresh f (shared lo hi) hi k (suc at)) + met_in j (edge_in fresh' w f (shared lo hi) hi k (after w at')) + met_in j (rest_in f (shared lo hi) hi k)
        ≤ met_in j f + spent fresh j h (suc at) + spent fresh' j (taken w h) (after w at')
        → met j (left_of fresh (interior i f ms) lo hi k at) + met_in j (right_of fresh' w (interior i f ms) lo hi k at')
        ≤ met j (interior i f ms) + spent fresh j (suc h) at + spent fresh' j (taken w (suc h)) at'
    unfolding left_of right_of met spent taken
    inner-numbers i f ms h lo hi k at at' ih =
        let l : Forest = left_in fresh f (shared lo hi) hi k (suc at) in
        let e : Forest = edge_in fresh' w f (shared lo hi) hi k (after w at') in
        let r : Forest = rest_in f (shared lo hi) hi k in
        omega (arith, met-node (fresh at) lo k l, met-packed w fresh' at' (taken w h) k hi e r)

    mutual
      unfolding levelled levelled_in left_in edge_in rest_in met_in

      pub cut-numbers : (t : Tree) (h : ℕ) (lo hi k : List ℕ) (at at' : ℕ) → levelled t h ≡ true
          → met j (left_of fresh t lo hi k at) + met_in j (right_of fresh' w t lo hi k at') ≤ met j t + (spent fresh j h at + spent fresh' j (taken w h) at')
      cut-numbers (unread i) h lo hi k at at' e = absurd (false≢true e)
      cut-numbers (leaf i rs) h lo hi k at at' e = omega (arith, leaf-numbers i rs h lo hi k at at' e)
      cut-numbers (interior i f ms) zero lo hi k at at' e = absurd (false≢true e)
      cut-numbers (interior i f ms) (suc h) lo hi k at at' e =
          omega (arith, inner-numbers i f ms h lo hi k at at' (omega (arith, cut-numbers-in f h (shared lo hi) hi k (suc at) (after w at') e)))

      pub cut-numbers-in : (f : Forest) (h : ℕ) (lifted hi k : List ℕ) (at at' : ℕ) → levelled_in f h ≡ true
          → met_in j (left_in fresh f lifted hi k at) + met_in j (edge_in fresh' w f lifted hi k at') + met_in j (rest_in f lifted hi k)
          ≤ met_in j f + (spent fresh j h at + spent fresh' j (taken w h) at')
      cut-numbers-in end h lifted hi k at at' e = omega arith
      cut-numbers-in (tree s t f) h lifted hi k at at' e =
          cases (before k (high_of lifted hi f))
          (λ a. cases (before (lifted ++ s) k)
          (λ b. rw (a, b) (omega (arith, cut-numbers t h (lifted ++ s) (high_of lifted hi f) k at at' (and_left _ _ e), met-raise lifted f)))
          (λ b. rw (a, b) (omega (arith, met-raise lifted f))))
          (λ a. rw a (omega (arith, cut-numbers-in f h lifted hi k at at' (and_right (levelled t h) _ e))))

-- numbers that are all j + 1 are never j
other-spent : (j c at : ℕ) → spent (λ (i : ℕ). suc j) j c at ≡ 0
unfolding spent one
other-spent j zero at = refl
other-spent j (suc c) at = rw (ne_eqb j (suc j) (λ q. omega arith)) (omega (arith, other-spent j c (suc at)))

-- either part alone
pub left-numbers : (j : ℕ) (fresh : ℕ → ℕ) (t : Tree) (h : ℕ) (lo hi k : List ℕ) (at : ℕ) → levelled t h ≡ true
    → met j (left_of fresh t lo hi k at) ≤ met j t + spent fresh j h at
left-numbers j fresh t h lo hi k at e =
    omega (arith, cut-numbers j fresh (λ (i : ℕ). suc j) false t h lo hi k at 0 e, other-spent j (taken false h) 0)

pub right-numbers : (j : ℕ) (fresh : ℕ → ℕ) (w : Bool) (t : Tree) (h : ℕ) (lo hi k : List ℕ) (at : ℕ) → levelled t h ≡ true
    → met_in j (right_of fresh w t lo hi k at) ≤ met j t + spent fresh j (taken w h) at
right-numbers j fresh w t h lo hi k at e =
    omega (arith, cut-numbers j (λ (i : ℕ). suc j) fresh w t h lo hi k 0 at e, other-spent j h 0)

pub left-numbers-in : (j : ℕ) (fresh : ℕ → ℕ) (f : Forest) (h : ℕ) (lifted hi k : List ℕ) (at : ℕ) → levelled_in f h ≡ true
    → met_in j (left_in fresh f lifted hi k at) ≤ met_in j f + spent fresh j h at
left-numbers-in j fresh f h lifted hi k at e =
    omega (arith, cut-numbers-in j fresh (λ (i : ℕ). suc j) false f h lifted hi k at 0 e, other-spent j (taken false h) 0)

pub right-numbers-in : (j : ℕ) (fresh : ℕ → ℕ) (w : Bool) (f : Forest) (h : ℕ) (lifted hi k : List ℕ) (at : ℕ) → levelled_in f h ≡ true
    → met_in j (edge_in fresh w f lifted hi k at) + met_in j (rest_in f lifted hi k) ≤ met_in j f + spent fresh j (taken w h) at
right-numbers-in j fresh w f h lifted hi k at e =
    omega (arith, cut-numbers-in j (λ (i : ℕ). suc j) fresh w f h lifted hi k 0 at e, other-spent j h 0)

-- a list has each number once when none stands in it twice
not_in : (i : ℕ) (is : List ℕ) → hits i is ≡ 0 → is_in i is ≡ false
unfolding hits is_in one
not_in i [] e = refl
not_in i (x ∷ is) e = cases (eqb i x) (λ f. let z : one i x ≡ 1 = rw f in absurd (omega arith)) (λ f. rw f (not_in i is (omega arith)))

pub once-of : (is : List ℕ) → ((j : ℕ) → hits j is ≤ 1) → once is ≡ true
unfolding once hits one
once-of [] e = refl
once-of (i ∷ is) e =
    both (not-false (is_in i is) (not_in i is (let h : hits i (i ∷ is) ≤ 1 = e i in let z : one i i ≡ 1 = rw (eq-eqb i i refl) in omega arith)))
    (once-of is (λ j. let h : hits j (i ∷ is) ≤ 1 = e j in omega arith))
