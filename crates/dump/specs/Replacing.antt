-- Puts that go into a table one after the other, oldest first, and what the functions that do so ask. Definitions only.
-- Relies on specs/Dump (a table after an entry) and on specs/Insertion (rows laid in two parts).
use Rattle.std.specs.Prelude.{ℕ, ◌*◌, ◌≤◌, ◌≡◌, List, [], ◌∷◌, ◌++◌, Bool, true, false, ◌&&◌, length}
use Rattle.image.specs.Path.{value_fits}
use Rattle.image.specs.Entry.{Entry, pair, child, message, puts, drops, clears}
use Rattle.image.specs.Table.{Row}
use Rattle.live_count.specs.Live.{short}
use Rattle.dump.specs.Insertion.Insertion.{Apart, laid}
use Rattle.dump.specs.Dump.{with_entry}

-- an entry takes no row away
unfoldable pub keeps_rows : Entry → Bool
keeps_rows (pair k v) = true
keeps_rows (child i k) = true
keeps_rows (message (puts k v)) = true
keeps_rows (message (drops k)) = false
keeps_rows (message (clears k)) = false

-- the messages among entries are puts
unfoldable pub only_puts : List Entry → Bool
only_puts [] = true
only_puts (e ∷ es) = keeps_rows e && only_puts es

-- a table after the puts among entries of a node that lifts `front`, oldest first
unfoldable pub put_among : List ℕ → List Entry → List Row → List Row
put_among front [] t = t
put_among front (e ∷ es) t = put_among front es (with_entry true front e t)

-- the path and the value of a put fit into a row
unfoldable pub put_fits : List ℕ → Entry → Bool
put_fits front (pair k v) = true
put_fits front (child i k) = true
put_fits front (message (puts k v)) = short (front ++ k) && value_fits v
put_fits front (message (drops k)) = true
put_fits front (message (clears k)) = true

unfoldable pub puts_fit : List ℕ → List Entry → Bool
puts_fit front [] = true
puts_fit front (e ∷ es) = put_fits front e && puts_fit front es

-- the puts among entries of the root may be put into the rows up to m and those from there up to `all`
pub record Unset (area : List ℕ) (m all : ℕ) (es : List Entry) : Type 0 where
  pub apart : Apart area 0 m all
  pub fits : puts_fit [] es ≡ true
  pub room : 128 * length (put_among [] es (laid area m all)) ≤ length area
