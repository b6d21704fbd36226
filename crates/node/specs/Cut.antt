-- A part of a list, from a place up to another: as `&s[a..b]` is made.
use Rattle.std.specs.Prelude.{ℕ, zero, suc, ◌+◌, ◌-◌, ◌<◌, ◌≤◌, ◌≡◌, List, [], ◌∷◌, length, take, drop, get_or}
use Rattle.image.specs.Prelude.{sym, ap, ◌∙◌, arith, length-drop, take-take, drop-drop, drop-nil, take-nil, get_or-take, get_or-drop, length-take-le}
use Rattle.image.specs.Bytes.{u16}

abbrev pub cut : List ℕ → ℕ → ℕ → List ℕ
cut s a b = take (b - a) (drop a s)

retake : (a b : ℕ) (l : List ℕ) → a ≡ b → take a l ≡ take b l
retake a b l e = ap (λ z. take z l) e

drop-take : (n k : ℕ) (l : List ℕ) → drop n (take k l) ≡ take (k - n) (drop n l)
drop-take zero k l = retake k (k - 0) l (omega arith)
drop-take (suc n) zero l = drop-nil (suc n) ∙ retake 0 (0 - suc n) (drop (suc n) l) (omega arith)
drop-take (suc n) (suc k) [] = sym (take-nil (suc k - suc n))
drop-take (suc n) (suc k) (x ∷ l) = drop-take n k l ∙ retake (k - n) (suc k - suc n) (drop n l) (omega arith)

module _ (s : List ℕ) where
  pub cut-drop : (a b n : ℕ) → a + n ≤ b → drop n (cut s a b) ≡ cut s (a + n) b
  cut-drop a b n h =
      drop-take n (b - a) (drop a s) ∙ ap (λ l. take (b - a - n) l) (drop-drop n a s) ∙ retake (b - a - n) (b - (a + n)) (drop (a + n) s) (omega arith)

  pub cut-take : (a b n : ℕ) → a + n ≤ b → take n (cut s a b) ≡ cut s a (a + n)
  cut-take a b n h = take-take n (b - a) (drop a s) (omega arith) ∙ retake n (a + n - a) (drop a s) (omega arith)

  pub cut-length : (a b : ℕ) → a ≤ b → b ≤ length s → length (cut s a b) ≡ b - a
  cut-length a b h k = length-take-le (b - a) (drop a s) (omega (arith, length-drop a s))

  pub cut_at : (a b i : ℕ) → i < b - a → get_or (cut s a b) i 0 ≡ get_or s (a + i) 0
  cut_at a b i h = get_or-take (b - a) (drop a s) i 0 h ∙ get_or-drop a s i 0

  pub cut-u16 : (a b k : ℕ) → k + 1 < b - a → u16 (cut s a b) k ≡ u16 s (a + k)
  unfolding u16
  cut-u16 a b k h =
      let x = cut_at a b k (omega arith) in
      let y = cut_at a b (k + 1) h in
      let z : get_or s (a + (k + 1)) 0 ≡ get_or s (a + k + 1) 0 = ap (λ i. get_or s i 0) (omega arith) in
      omega arith

  pub cut-nil : (a b : ℕ) → b ≤ a → cut s a b ≡ []
  cut-nil a b h = retake (b - a) 0 (drop a s) (omega arith)
