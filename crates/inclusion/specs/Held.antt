-- What the walk asks of each path that it comes to, and what it decides: every path of one image is in another.
-- Relies on: what is present in an image (successor/specs/Walk) and in a table (laws/Reading/Seek).
use Rattle.std.specs.Prelude.{ℕ, List, Bool, ◌||◌, not}
use Rattle.image.specs.Table.{Row, every_key}
use Rattle.laws.specs.Reading.Seek.{every, present}
use Rattle.successor.specs.Walk.{is_present}

-- a path is in the image t, or is not in the image s
unfoldable pub is_held : List ℕ → List ℕ → List ℕ → Bool
is_held s t k = is_present t k || not (is_present s k)

-- each path of a list is
unfoldable pub all_held : List ℕ → List ℕ → List (List ℕ) → Bool
all_held s t ks = every (is_held s t) ks

-- every key of one table has a value in another
unfoldable pub included : List Row → List Row → Bool
included t u = every_key (λ k. present k u) t
