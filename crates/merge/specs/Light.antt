-- A weight as the code answers it: none says that it is more than a node holds. Definitions only.
use Rattle.std.specs.Prelude.{ℕ, ◌<◌, ◌≤◌, ◌≡◌, MatchOption, Option}

abbrev pub Weighs : ℕ → Option ℕ → Type 0
Weighs w r = MatchOption r (1016 < w) (λ n. n ≡ w)

-- one that is given is no more than a node holds
abbrev pub Light : ℕ → Option ℕ → Type 0
Light w r = MatchOption r (1016 < w) (λ n. (n ≡ w) × (n ≤ 1016))
