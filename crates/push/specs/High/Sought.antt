-- What is promised of a node's high pivot that is kept in a buffer. Definitions only.
use Rattle.std.specs.Prelude.{ℕ, ◌<◌, ◌≡◌, List, length, MatchOption}
use Rattle.std.specs.Prelude as found
use Rattle.std.specs.Borrow.{Bor}
use Rattle.image.specs.Prelude.{Option, some}

-- the pivot that was sought, unless it is longer than the buffer or there is none
abbrev pub Buffered : Option (List ℕ) → found.Option (Bor (List ℕ)) → Type 0
Buffered x r = MatchOption r ((h : List ℕ) → x ≡ some h → 65 < length h) (λ h. x ≡ some h.now)
