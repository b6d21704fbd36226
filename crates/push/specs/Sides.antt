-- Which pairs of a leaf stay, by a test of their keys that is lent as a function. Definitions only.
use Rattle.std.specs.Prelude.{ℕ, ◌≡◌, List, Bool}
use Rattle.std.specs.Borrow.{Bor}

-- what the function answers of a key is what the test says of it
abbrev pub Tells : (Bor (List ℕ) → Bool → Type 0) → (List ℕ → Bool) → Type 0
Tells post test = (k : Bor (List ℕ)) (b : Bool) → post k b → b ≡ test k.now
