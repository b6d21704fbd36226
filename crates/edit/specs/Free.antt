-- A free node, found by the marks of the check.
use Rattle.std.specs.Prelude.{ℕ, ◌<◌, ◌≤◌, ◌≡◌, List, get_or, Option, MatchOption}

-- a number from 1 up to, not including, n whose byte is 0
abbrev pub Unmarked : List ℕ → ℕ → ℕ → Type 0
Unmarked seen n i = (1 ≤ i) × (i < n) × (get_or seen i 0 ≡ 0)

-- such a number, where one is given
abbrev pub FirstFree : List ℕ → ℕ → Option ℕ → Type 0
FirstFree seen n r = MatchOption r Unit (λ i. Unmarked seen n i)
