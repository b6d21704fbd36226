-- Laws of beginnings, and of what two byte strings share at the front. Relies on Order.
use Rattle.std.specs.Prelude.{ℕ, ◌≤◌, ◌≡◌, refl, List, [], ◌∷◌, ◌++◌, true, false, length, drop, take, eqb}
use Rattle.image.specs.Prelude.{sym, ◌∙◌, ap, false≢true, arith, eqb-true, eq-eqb, le-ltb, cases}
use Rattle.image.specs.Bytes.{begins, shared, before}
use Rattle.octets.specs.Order.{and_left, and_right}

pub begins-refl : (s : List ℕ) → begins s s ≡ true
unfolding begins
begins-refl [] = refl
begins-refl (a ∷ s) = rw (eq-eqb a a refl) (begins-refl s)

pub begins-append : (p rest : List ℕ) → begins p (p ++ rest) ≡ true
unfolding begins
begins-append [] rest = refl
begins-append (a ∷ p) rest = rw (eq-eqb a a refl) (begins-append p rest)

pub begins-length : (p q : List ℕ) → begins p q ≡ true → length p ≤ length q
unfolding begins
begins-length [] q e = omega arith
begins-length (a ∷ p) [] e = absurd (false≢true e)
begins-length (a ∷ p) (b ∷ q) e = let h : length p ≤ length q = begins-length p q (and_right (eqb a b) _ e) in omega arith

pub shared-left : (a b : List ℕ) → begins (shared a b) a ≡ true
unfolding begins shared
shared-left [] b = refl
shared-left (x ∷ a) [] = refl
shared-left (x ∷ a) (y ∷ b) = cases (eqb x y) (λ e. rw (e, eq-eqb x x refl) (shared-left a b)) (λ e. rw e)

pub shared-right : (a b : List ℕ) → begins (shared a b) b ≡ true
unfolding begins shared
shared-right [] b = refl
shared-right (x ∷ a) [] = refl
shared-right (x ∷ a) (y ∷ b) = cases (eqb x y) (λ e. rw (e, e) (shared-right a b)) (λ e. rw e)

pub shared-most : (p a b : List ℕ) → begins p a ≡ true → begins p b ≡ true → begins p (shared a b) ≡ true
unfolding begins shared
shared-most [] a b e f = refl
shared-most (x ∷ p) [] b e f = absurd (false≢true e)
shared-most (x ∷ p) (y ∷ a) [] e f = absurd (false≢true f)
shared-most (x ∷ p) (y ∷ a) (z ∷ b) e f =
    let h : x ≡ y = eqb-true x y (and_left _ _ e) in
    let k : x ≡ z = eqb-true x z (and_left _ _ f) in
    rw (eq-eqb y z (sym h ∙ k), eq-eqb x y h) (shared-most p a b (and_right (eqb x y) _ e) (and_right (eqb x z) _ f))

pub begins-not-before : (p q : List ℕ) → begins p q ≡ true → before q p ≡ false
unfolding begins before
begins-not-before [] [] e = refl
begins-not-before [] (b ∷ q) e = refl
begins-not-before (a ∷ p) [] e = absurd (false≢true e)
begins-not-before (a ∷ p) (b ∷ q) e =
    let h : a ≡ b = eqb-true a b (and_left _ _ e) in
    rw (le-ltb b a (omega arith), eq-eqb b a (sym h)) (begins-not-before p q (and_right (eqb a b) _ e))

-- after that, nothing is lifted
pub strip-shared : (lo hi : List ℕ) → shared (drop (length (shared lo hi)) lo) (drop (length (shared lo hi)) hi) ≡ []
unfolding shared
strip-shared [] hi = refl
strip-shared (a ∷ lo) [] = refl
strip-shared (a ∷ lo) (b ∷ hi) = cases (eqb a b) (λ e. rw e (strip-shared lo hi)) (λ e. rw (e, e))

-- what a node lifts is a beginning of its low pivot
pub shared-take : (lo hi : List ℕ) → take (length (shared lo hi)) lo ≡ shared lo hi
unfolding shared
shared-take [] hi = refl
shared-take (a ∷ lo) [] = refl
shared-take (a ∷ lo) (b ∷ hi) = cases (eqb a b) (λ e. rw e (ap (λ l. a ∷ l) (shared-take lo hi))) (λ e. rw e)

pub take_part : (a b : List ℕ) (own : ℕ) → own ≡ length (shared a b) → take own a ≡ shared a b
take_part a b own e = ap (λ n. take n a) e ∙ shared-take a b
