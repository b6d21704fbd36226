-- The table of a sound store is one that the packed form can hold: few rows, rising, paths well formed, values short.
-- Relies on laws/specs (Follow, Formed, ValuesFit) and dump/specs/RootSteps (how many rows).
use Rattle.std.specs.Prelude.{ℕ, ◌≡◌, List, true, length}
use Rattle.image.specs.Image.{nodes_of}
use Rattle.image.specs.Sound.{sound, table_of}
use Rattle.laws.specs.Follow.{table-rises}
use Rattle.laws.specs.Formed.{table-formed}
use Rattle.laws.specs.ValuesFit.{table_fits}
use Rattle.packed.specs.Form.Tidy.{Table}
use Rattle.dump.specs.RootSteps.{table-few}

pub store-table : (s : List ℕ) → sound s ≡ true → Table (nodes_of (length s)) (table_of s)
store-table s whole = record { few = table-few s whole; rises = table-rises s whole; formed = table-formed s whole; values = table_fits s whole }
