-- The node numbers that a caller hands in. The k-th new node takes the k-th number.
-- Relies on nothing but std's lists.
use Rattle.std.specs.Prelude.{ℕ, zero, suc, ◌-◌, List, [], ◌∷◌, length, get_or}

-- k numbers from the i-th on
unfoldable pub listed : ℕ → List ℕ → ℕ → List ℕ
listed zero given i = []
listed (suc k) given i = get_or given i 0 ∷ listed k given (suc i)

-- all numbers from the i-th on
unfoldable pub handed_from : List ℕ → ℕ → List ℕ
handed_from given i = listed (length given - i) given i

unfoldable pub handed : List ℕ → List ℕ
handed given = handed_from given 0
