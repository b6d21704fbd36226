-- Strings of bytes, their order and the numbers in them. A byte is a number below 256; a string of bytes is a `List ℕ`.
-- Tests answer a Bool and recurse on the list, so that they compute and a contract can be an equation.
use Rattle.std.specs.Prelude.{ℕ, ◌+◌, ◌*◌, ◌/◌, ◌%◌, List, [], ◌∷◌, Bool, true, false, ◌&&◌, ◌||◌, cond, get_or, ltb, eqb}

-- the same bytes
unfoldable pub same : List ℕ → List ℕ → Bool
same [] [] = true
same [] (b ∷ t) = false
same (a ∷ s) [] = false
same (a ∷ s) (b ∷ t) = eqb a b && same s t

-- "Paths compare byte by byte, a beginning before its extension": s comes before t
unfoldable pub before : List ℕ → List ℕ → Bool
before [] [] = false
before [] (b ∷ t) = true
before (a ∷ s) [] = false
before (a ∷ s) (b ∷ t) = ltb a b || (eqb a b && before s t)

-- s is a beginning of t; t is one of itself
unfoldable pub begins : List ℕ → List ℕ → Bool
begins [] t = true
begins (a ∷ s) [] = false
begins (a ∷ s) (b ∷ t) = eqb a b && begins s t

-- "the longest common beginning" of s and t
unfoldable pub shared : List ℕ → List ℕ → List ℕ
shared [] t = []
shared (a ∷ s) [] = []
shared (a ∷ s) (b ∷ t) = cond (eqb a b) (a ∷ shared s t) []

-- every byte is zero
unfoldable pub zeros : List ℕ → Bool
zeros [] = true
zeros (a ∷ s) = eqb a 0 && zeros s

-- "All numbers are unsigned and little-endian": the number in the two bytes at place k
unfoldable pub u16 : List ℕ → ℕ → ℕ
u16 s k = get_or s k 0 + 256 * get_or s (k + 1) 0

-- and a number below 65,536 as its two bytes
abbrev pub u16_bytes : ℕ → List ℕ
u16_bytes n = n % 256 ∷ n / 256 ∷ []
