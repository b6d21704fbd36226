-- Steps of the loop that lists the numbers from a first one up.
-- Rely on the definitions of Handed and of Form/Packed (`numbers_from`).
use Rattle.std.specs.Prelude.{ℕ, zero, suc, ◌+◌, ◌-◌, ◌<◌, ◌≡◌, refl, List, [], ◌∷◌, ◌++◌, length, get_or, set}
use Rattle.image.specs.Prelude.{sym, ap, ap₂, ◌∙◌, arith, get_or-set_other, get_or-set_same}
use Rattle.packed.specs.Form.Packed.{numbers_from}
use Rattle.packed.specs.Build.Handed.{listed, handed_from, handed}

pub listed-end : (k : ℕ) (b : List ℕ) (i : ℕ) → listed (suc k) b i ≡ listed k b i ++ (get_or b (i + k) 0 ∷ [])
unfolding listed
listed-end zero b i = let z : i ≡ i + 0 = omega arith in ap (λ q. get_or b q 0 ∷ []) z
listed-end (suc k) b i =
    let z : suc i + k ≡ i + suc k = omega arith in
    ap (λ l. get_or b i 0 ∷ l) (listed-end k b (suc i) ∙ ap (λ q. listed k b (suc i) ++ (get_or b q 0 ∷ [])) z)

pub listed-alike : (k : ℕ) (a b : List ℕ) (i : ℕ) → ((t : ℕ) → t < i + k → get_or b t 0 ≡ get_or a t 0) → listed k b i ≡ listed k a i
unfolding listed
listed-alike zero a b i h = refl
listed-alike (suc k) a b i h = ap₂ (λ x l. x ∷ l) (h i (omega arith)) (listed-alike k a b (suc i) (λ t p. h t (omega arith)))

from_end : (s k : ℕ) → numbers_from s (suc k) ≡ numbers_from s k ++ ((s + k) ∷ [])
unfolding numbers_from
from_end s zero = let z : s ≡ s + 0 = omega arith in ap (λ x. x ∷ []) z
from_end s (suc k) =
    let z : suc s + k ≡ s + suc k = omega arith in
    ap (λ l. s ∷ l) (from_end (suc s) k ∙ ap (λ x. numbers_from (suc s) k ++ (x ∷ [])) z)

pub number-before : (b : List ℕ) (k v t : ℕ) → t < k → get_or (set b k v) t 0 ≡ get_or b t 0
number-before b k v t h = get_or-set_other b k t v 0 (λ q. omega arith)

pub count-first : (b : List ℕ) (first : ℕ) → listed 0 b 0 ≡ numbers_from first 0
unfolding listed numbers_from
count-first b first = refl

pub count_next : (b : List ℕ) (first k : ℕ) → k < length b → listed k b 0 ≡ numbers_from first k
    → listed (k + 1) (set b k (first + k)) 0 ≡ numbers_from first (k + 1)
count_next b first k r e =
    let z : k + 1 ≡ suc k = omega arith in
    let y : 0 + k ≡ k = omega arith in
    ap (λ c. listed c (set b k (first + k)) 0) z
    ∙ listed-end k (set b k (first + k)) 0
    ∙ ap₂ (λ l n. l ++ (n ∷ []))
    (listed-alike k b (set b k (first + k)) 0 (λ t p. number-before b k (first + k) t (omega arith)) ∙ e)
    (ap (λ p. get_or (set b k (first + k)) p 0) y ∙ get_or-set_same b k (first + k) 0 r)
    ∙ sym (from_end first k)
    ∙ ap (numbers_from first) (sym z)

pub count-last : (b : List ℕ) (first k n : ℕ) → k ≡ length b → k ≡ n → listed k b 0 ≡ numbers_from first k → handed b ≡ numbers_from first n
unfolding handed handed_from
count-last b first k n z q e = let y : length b - 0 ≡ k = omega arith in ap (λ c. listed c b 0) y ∙ e ∙ ap (numbers_from first) q
