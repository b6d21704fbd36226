-- What the walk writes of a node's entries, and what each of its functions asks and gives. Definitions only; the laws are beside.
-- Relies on live_count/specs (which entry decides a path) and on packed/specs/Rows/Area (the rows of the work area).
use Rattle.std.specs.Prelude.{ℕ, ◌+◌, ◌*◌, ◌-◌, ◌≤◌, ◌≡◌, List, [], ◌∷◌, ◌++◌, Bool, true, ◌&&◌, cond, length, drop}
use Rattle.image.specs.Path.{value_fits}
use Rattle.image.specs.Entry.{Entry, pair, child, message, puts, drops, clears}
use Rattle.image.specs.Table.{Row, with_row, every_key, rising}
use Rattle.image.specs.Sound.{table_of}
use Rattle.node.specs.Search.Latest.{newest_among}
use Rattle.packed.specs.Rows.Area.{rows_of, RowsFit}
use Rattle.live_count.specs.Live.{holds_no_message}
use Rattle.live_count.specs.Walk.{decides}

-- the row of a key and a value under a prefix
abbrev pub row_under : List ℕ → List ℕ → List ℕ → Row
row_under prefix k v = record { key = prefix ++ k; value = v }

-- the pairs among entries, as stored
unfoldable pub pairs_among : List Entry → List Row
pairs_among [] = []
pairs_among (pair k v ∷ es) = record { key = k; value = v } ∷ pairs_among es
pairs_among (child i k ∷ es) = pairs_among es
pairs_among (message m ∷ es) = pairs_among es

-- the values of pairs and puts fit
unfoldable pub entry_value_fits : Entry → Bool
entry_value_fits (pair k v) = value_fits v
entry_value_fits (child i k) = true
entry_value_fits (message (puts k v)) = value_fits v
entry_value_fits (message (drops k)) = true
entry_value_fits (message (clears k)) = true

unfoldable pub values_fit_among : List Entry → Bool
values_fit_among [] = true
values_fit_among (e ∷ es) = entry_value_fits e && values_fit_among es

-- a table after an entry: a put that decides its path comes in
unfoldable pub with_entry : Bool → List ℕ → Entry → List Row → List Row
with_entry b lead (pair k v) t = t
with_entry b lead (child i k) t = t
with_entry b lead (message (puts k v)) t = cond b (with_row (lead ++ k) v t) t
with_entry b lead (message (drops k)) t = t
with_entry b lead (message (clears k)) t = t

-- a table after all entries of an interior node
unfoldable pub insert_among : (List ℕ → Bool) → List ℕ → List Entry → List Row → List Row
insert_among ok lead [] t = t
insert_among ok lead (e ∷ es) t = insert_among ok lead es (with_entry (decides ok lead e es) lead e t)

-- the rows rise, and no message among the entries says anything of them
pub record Untold (lead : List ℕ) (es : List Entry) (t : List Row) : Type 0 where
  pub rises : rising t ≡ true
  pub quiet : every_key (λ q. holds_no_message (newest_among es (drop (length lead) q))) t ≡ true

-- m rows stand in the area, and there is room for those of t
pub record Room (area : List ℕ) (m : ℕ) (t : List Row) : Type 0 where
  pub fit : RowsFit m area
  pub room : 128 * (m + length t) ≤ length area

-- the rows of t stand in the area after the first m, r in all
pub record Added (m : ℕ) (area area' : List ℕ) (r : ℕ) (t : List Row) : Type 0 where
  pub fit : RowsFit r area'
  pub rows : rows_of r area' 0 ≡ rows_of m area 0 ++ t
  pub count : r ≡ m + length t
  pub size : length area' ≡ length area

-- the entries es of a node with prefix `lead` are to come in among the rows from `first` up to m
pub record Open (area : List ℕ) (first m : ℕ) (ok : List ℕ → Bool) (lead : List ℕ) (es : List Entry) : Type 0 where
  pub fit : RowsFit m area
  pub ahead : first ≤ m
  pub untold : Untold lead es (rows_of (m - first) area first)
  pub values : values_fit_among es ≡ true
  pub room : 128 * (first + length (insert_among ok lead es (rows_of (m - first) area first))) ≤ length area

-- the rows from `first` on are the table t, those before it are as they were
pub record Placed (first : ℕ) (area area' : List ℕ) (r : ℕ) (t : List Row) : Type 0 where
  pub fit : RowsFit r area'
  pub ahead : first ≤ r
  pub front : rows_of first area' 0 ≡ rows_of first area 0
  pub rows : rows_of (r - first) area' first ≡ t
  pub size : length area' ≡ length area

-- all m rows of the table stand in the area after the dump
pub record Dumped (s area area' : List ℕ) (m : ℕ) : Type 0 where
  pub fit : RowsFit m area'
  pub table : rows_of m area' 0 ≡ table_of s
  pub count : m ≡ length (table_of s)
  pub size : length area' ≡ length area
