-- Laws of the numbers that are handed in: one number and on, how many are left, and that each is in range.
-- Rely on the definitions of Handed and of image (`in_range`), and on octets' Order.
use Rattle.std.specs.Prelude.{ℕ, zero, suc, ◌+◌, ◌-◌, ◌≤◌, ◌<◌, ◌≡◌, refl, List, ◌∷◌, Bool, true, false, ◌&&◌, length, get_or, drop, leb, ltb, eqb, ◌≢◌}
use Rattle.image.specs.Prelude.{ap, ap₂, ◌∙◌, arith, leb-true, ltb-true, eqb-true, eqb-false}
use Rattle.image.specs.Sound.{in_range}
use Rattle.octets.specs.Order.{and_left, and_right}
use Rattle.packed.specs.Build.Handed.{listed, handed_from, handed}

pub handed-is : (given : List ℕ) → handed given ≡ handed_from given 0
unfolding handed
handed-is given = refl

pub handed-step : (given : List ℕ) (i : ℕ) → i < length given → handed_from given i ≡ get_or given i 0 ∷ handed_from given (i + 1)
unfolding handed_from listed
handed-step given i h =
    let z : length given - i ≡ suc (length given - (i + 1)) = omega arith in
    let y : suc i ≡ i + 1 = omega arith in
    ap (λ k. listed k given i) z ∙ ap (λ q. get_or given i 0 ∷ listed (length given - (i + 1)) given q) y

pub listed-length : (k : ℕ) (given : List ℕ) (i : ℕ) → length (listed k given i) ≡ k
unfolding listed
listed-length zero given i = refl
listed-length (suc k) given i = ap suc (listed-length k given (suc i))

pub handed-length : (given : List ℕ) (i : ℕ) → length (handed_from given i) ≡ length given - i
unfolding handed_from
handed-length given i = listed-length (length given - i) given i

listed-drop : (n k : ℕ) (given : List ℕ) (i : ℕ) → n ≤ k → drop n (listed k given i) ≡ listed (k - n) given (i + n)
unfolding listed
listed-drop zero k given i h =
    let a : k ≡ k - 0 = omega arith in
    let b : i ≡ i + 0 = omega arith in
    ap₂ (λ x y. listed x given y) a b
listed-drop (suc n) zero given i h = absurd (omega arith)
listed-drop (suc n) (suc k) given i h =
    let a : k - n ≡ suc k - suc n = omega arith in
    let b : suc i + n ≡ i + suc n = omega arith in
    listed-drop n k given (suc i) (omega arith) ∙ ap₂ (λ x y. listed x given y) a b

pub handed-drop : (given : List ℕ) (i n : ℕ) → i + n ≤ length given → drop n (handed_from given i) ≡ handed_from given (i + n)
unfolding handed_from
handed-drop given i n h =
    let a : length given - i - n ≡ length given - (i + n) = omega arith in
    listed-drop n (length given - i) given i (omega arith) ∙ ap (λ x. listed x given (i + n)) a

listed-range : (n k : ℕ) (given : List ℕ) (i : ℕ) → in_range n (listed k given i) ≡ true → (t : ℕ) → i ≤ t → t < i + k
    → (1 ≤ get_or given t 0) × (get_or given t 0 < n)
unfolding listed in_range
listed-range n zero given i r t a b = absurd (omega arith)
listed-range n (suc k) given i r t a b = go (eqb t i) refl (listed-range n k given (suc i) (and_right (leb 1 (get_or given i 0) && ltb (get_or given i 0) n) _ r) t)
  where
    here : (1 ≤ get_or given i 0) × (get_or given i 0 < n)
    here = (
      leb-true 1 (get_or given i 0) (and_left _ _ (and_left _ _ r)),
      ltb-true (get_or given i 0) n (and_right (leb 1 (get_or given i 0)) _ (and_left _ _ r)),
    )

    go : (x : Bool) → eqb t i ≡ x → (suc i ≤ t → t < suc i + k → (1 ≤ get_or given t 0) × (get_or given t 0 < n)) → (1 ≤ get_or given t 0) × (get_or given t 0 < n)
    go true e ih = let z : t ≡ i = eqb-true t i e in rw z here
    go false e ih = let z : t ≢ i = eqb-false t i e in ih (omega arith) (omega arith)

pub handed-range : (n : ℕ) (given : List ℕ) (t : ℕ) → in_range n (handed given) ≡ true → t < length given
    → (1 ≤ get_or given t 0) × (get_or given t 0 < n)
unfolding handed handed_from
handed-range n given t r h = listed-range n (length given - 0) given 0 r t (omega arith) (omega arith)
