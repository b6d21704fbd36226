-- The free nodes, rising: a supply that a move may use.
use Rattle.std.specs.Prelude.{ℕ, zero, suc, ◌+◌, ◌*◌, ◌-◌, ◌≤◌, ◌<◌, ◌≡◌, refl, List, [], ◌∷◌, true, false, cond, length, eqb}
use Rattle.image.specs.Prelude.{ap, ◌∙◌, false≢true, arith, eqb-true, ne_eqb, le-leb, lt-ltb, cases}
use Rattle.image.specs.Image.{nodes_of, header_of, tree_of}
use Rattle.image.specs.Sound.{numbers, is_in, once, in_range}
use Rattle.image.specs.Upkeep.{used, free_nodes}
use Rattle.octets.specs.Order.{not-false}
use Rattle.laws.specs.Rising.{both}
use Rattle.slice.specs.Slicing.SliceNumbers.{one, hits}
use Rattle.slice.specs.Slicing.SliceWrite.{in-hits}
use Rattle.slice.specs.Moving.MoveImage.{Free}

-- of the c numbers from i up, those that are not in use
unfoldable pub free_from : ℕ → ℕ → List ℕ → List ℕ
free_from zero i is = []
free_from (suc c) i is = cond (is_in i is) (free_from c (suc i) is) (i ∷ free_from c (suc i) is)

unfoldable pub free_list : List ℕ → List ℕ
free_list s = free_from (nodes_of (length s) - 1) 1 (numbers (tree_of s))

-- each is from i up, and not in use
lower-not : (j c i : ℕ) (is : List ℕ) → j < i → is_in j (free_from c i is) ≡ false
unfolding free_from is_in
lower-not j zero i is h = refl
lower-not j (suc c) i is h =
    cases (is_in i is) (λ q. rw q (lower-not j c (suc i) is (omega arith)))
    (λ q. rw (q, ne_eqb j i (λ z. omega arith)) (lower-not j c (suc i) is (omega arith)))

free-once : (c i : ℕ) (is : List ℕ) → once (free_from c i is) ≡ true
unfolding free_from once
free-once zero i is = refl
free-once (suc c) i is =
    cases (is_in i is) (λ q. rw q (free-once c (suc i) is))
    (λ q. rw q (both (not-false (is_in i (free_from c (suc i) is)) (lower-not i c (suc i) is (omega arith))) (free-once c (suc i) is)))

free-range : (n c i : ℕ) (is : List ℕ) → 1 ≤ i → i + c ≤ n → in_range n (free_from c i is) ≡ true
unfolding free_from in_range
free-range n zero i is h g = refl
free-range n (suc c) i is h g =
    cases (is_in i is) (λ q. rw q (free-range n c (suc i) is (omega arith) (omega arith)))
    (λ q. rw q (both (both (le-leb 1 i h) (lt-ltb i n (omega arith))) (free-range n c (suc i) is (omega arith) (omega arith))))

free-unused : (j c i : ℕ) (is : List ℕ) → is_in j (free_from c i is) ≡ true → is_in j is ≡ false
unfolding free_from is_in
free-unused j zero i is e = absurd (false≢true e)
free-unused j (suc c) i is e =
    cases (is_in i is) (λ q. free-unused j c (suc i) is (rw q at e))
    (λ q. cases (eqb j i) (λ z. ap (λ x. is_in x is) (eqb-true j i z) ∙ q) (λ z. free-unused j c (suc i) is (rw (q, z) at e)))

-- how many there are
unfoldable near : ℕ → ℕ → List ℕ → ℕ
near zero i is = 0
near (suc c) i is = hits i is + near c (suc i) is

near_none : (c i : ℕ) → near c i [] ≡ 0
unfolding near hits
near_none zero i = refl
near_none (suc c) i = omega (arith, near_none c (suc i))

unfoldable spot : ℕ → ℕ → ℕ → ℕ
spot zero i x = 0
spot (suc c) i x = one i x + spot c (suc i) x

near-cons : (c i x : ℕ) (is : List ℕ) → near c i (x ∷ is) ≡ spot c i x + near c i is
unfolding near spot hits
near-cons zero i x is = refl
near-cons (suc c) i x is = omega (arith, near-cons c (suc i) x is)

spot_past : (c i x : ℕ) → x < i → spot c i x ≡ 0
unfolding spot one
spot_past zero i x h = refl
spot_past (suc c) i x h = rw (ne_eqb i x (λ q. omega arith)) (omega (arith, spot_past c (suc i) x (omega arith)))

spot-one : (c i x : ℕ) → spot c i x ≤ 1
unfolding spot one
spot-one zero i x = omega arith
spot-one (suc c) i x =
    cases (eqb i x) (λ q. rw q (let z : i ≡ x = eqb-true i x q in omega (arith, spot_past c (suc i) x (omega arith))))
    (λ q. rw q (omega (arith, spot-one c (suc i) x)))

near-length : (c i : ℕ) (is : List ℕ) → near c i is ≤ length is
near-length c i [] = omega (arith, near_none c i)
near-length c i (x ∷ is) = omega (arith, near-cons c i x is, spot-one c i x, near-length c i is)

free-near : (c i : ℕ) (is : List ℕ) → c ≤ length (free_from c i is) + near c i is
unfolding free_from near
free-near zero i is = omega arith
free-near (suc c) i is =
    cases (is_in i is) (λ q. rw q (omega (arith, free-near c (suc i) is, in-hits i is q)))
    (λ q. rw q (omega (arith, free-near c (suc i) is)))

pub free-many : (c i : ℕ) (is : List ℕ) → c ≤ length (free_from c i is) + length is
free-many c i is = omega (arith, free-near c i is, near-length c i is)

-- the list has all of them
pub free-enough : (s : List ℕ) → free_nodes s ≤ length (free_list s)
unfolding free_list free_nodes used
free-enough s = omega (arith, free-many (nodes_of (length s) - 1) 1 (numbers (tree_of s)))

-- Enough free nodes for a move: the list is a supply. (Demand 3 gives 12 × L + 8.)
pub list-supply : (s : List ℕ) → 10 * (header_of s).levels + 1 ≤ length (free_list s) → Free s (free_list s)
unfolding free_list
list-supply s h =
    record {
      enough = omega arith;
      distinct = free-once (nodes_of (length s) - 1) 1 (numbers (tree_of s));
      within = by_count (nodes_of (length s));
      unused = λ j e. free-unused j (nodes_of (length s) - 1) 1 (numbers (tree_of s)) e;
    }
  where
    by_count : (n : ℕ) → in_range n (free_from (n - 1) 1 (numbers (tree_of s))) ≡ true
    by_count zero = none (zero - 1) (omega arith)
      where
        none : (c : ℕ) → c ≡ 0 → in_range zero (free_from c 1 (numbers (tree_of s))) ≡ true
        none zero e = unfold free_from in_range in refl
        none (suc c) e = absurd (omega arith)
    by_count (suc n) = free-range (suc n) (suc n - 1) 1 (numbers (tree_of s)) (omega arith) (omega arith)

pub free-supply : (s : List ℕ) → 10 * (header_of s).levels + 1 ≤ free_nodes s → Free s (free_list s)
free-supply s h = list-supply s (omega (arith, free-enough s))
