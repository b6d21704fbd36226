-- Numbers told up to 65,535, the most that two bytes hold: a sum told so may be told so at every step. Relies on nothing.
use Rattle.std.specs.Prelude.{ℕ, ◌+◌, ◌<◌, ◌≤◌, ◌≡◌, cond, leb, eqb}
use Rattle.image.specs.Prelude.{sym, ap, ap₂, ◌∙◌, arith, le-leb, leb-true, leb-false, ne_eqb, cases}

-- the smaller of a number and 65,535
unfoldable pub cap : ℕ → ℕ
cap n = cond (leb n 65535) n 65535

pub cap-small : (n : ℕ) → n ≤ 65535 → cap n ≡ n
unfolding cap
cap-small n h = rw (le-leb n 65535 h)

pub cap-large : (n : ℕ) → 65535 ≤ n → cap n ≡ 65535
unfolding cap
cap-large n h = cases (leb n 65535) (λ e. let k : n ≤ 65535 = leb-true n 65535 e in rw e (omega arith)) (λ e. rw e)

data Sized (n : ℕ) : Type 0 where
  small : n ≤ 65535 → cap n ≡ n → Sized n
  large : 65535 < n → cap n ≡ 65535 → Sized n

sized : (n : ℕ) → Sized n
sized n =
    cases (leb n 65535) (λ e. let k : n ≤ 65535 = leb-true n 65535 e in small k (cap-small n k))
    (λ e. let k : 65535 < n = leb-false n 65535 e in large k (cap-large n (omega arith)))

pub cap-sum : (a b : ℕ) → cap (cap a + cap b) ≡ cap (a + b)
cap-sum a b = go (sized a) (sized b)
  where
    go : Sized a → Sized b → cap (cap a + cap b) ≡ cap (a + b)
    go (small h e) (small k f) = ap₂ (λ x y. cap (x + y)) e f
    go (small h e) (large k f) = cap-large (cap a + cap b) (omega arith) ∙ sym (cap-large (a + b) (omega arith))
    go (large h e) y = cap-large (cap a + cap b) (omega arith) ∙ sym (cap-large (a + b) (omega arith))

pub cap-add : (a b : ℕ) → cap (a + cap b) ≡ cap (a + b)
cap-add a b = go (sized b)
  where
    go : Sized b → cap (a + cap b) ≡ cap (a + b)
    go (small h e) = ap (λ n. cap (a + n)) e
    go (large h e) = cap-large (a + cap b) (omega arith) ∙ sym (cap-large (a + b) (omega arith))

pub cap-front : (a b : ℕ) → cap (cap a + b) ≡ cap (a + b)
cap-front a b =
    let p : cap a + b ≡ b + cap a = omega arith in
    let q : b + a ≡ a + b = omega arith in
    ap cap p ∙ cap-add b a ∙ ap cap q

-- a number that is less is told apart by the count as it is told
pub cap-equal : (n m : ℕ) → m < 65535 → eqb (cap n) m ≡ eqb n m
cap-equal n m h = go (sized n)
  where
    go : Sized n → eqb (cap n) m ≡ eqb n m
    go (small l e) = ap (λ k. eqb k m) e
    go (large l e) = ap (λ k. eqb k m) e ∙ ne_eqb 65535 m (λ q. omega arith) ∙ sym (ne_eqb n m (λ q. omega arith))
