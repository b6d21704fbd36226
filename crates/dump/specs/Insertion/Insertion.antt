-- What the insertion of a row and the merge of rows ask and promise, and the place that a row is put at. Definitions only.
use Rattle.std.specs.Prelude.{ℕ, suc, ◌+◌, ◌*◌, ◌-◌, ◌≤◌, ◌≡◌, List, [], ◌∷◌, ◌++◌, Bool, true, cond, length, take, drop}
use Rattle.image.specs.Bytes.{before}
use Rattle.image.specs.Table.{Row, find, is_some, with_row, put_all, rising}
use Rattle.octets.specs.Put.{put}
use Rattle.packed.specs.Rows.Area.{row_at, rows_of, RowsFit}

-- how many rows stand before the first that does not come before path p
unfoldable pub rank : List ℕ → List Row → ℕ
rank p [] = 0
rank p (r ∷ t) = cond (before r.key p) (suc (rank p t)) 0

-- the bytes of row t
unfoldable pub slot : List ℕ → ℕ → List ℕ
slot area t = take 128 (drop (t * 128) area)

-- one row more: those from `from` on are the table with the path's row put into it
pub record Inserted (from m : ℕ) (area area' path value : List ℕ) : Type 0 where
  pub fit : RowsFit (m + 1) area'
  pub rows : rows_of (m + 1) area' 0 ≡ rows_of from area 0 ++ with_row path value (rows_of (m - from) area from)

-- the path's row among those from `from` up to m has the value, if there is one; the rows before them and the bytes behind them are as before
pub record Replaced (from m : ℕ) (area area' path value : List ℕ) (r : Bool) : Type 0 where
  pub found : r ≡ is_some (find path (rows_of (m - from) area from))
  pub fit : RowsFit m area'
  pub front : rows_of from area' 0 ≡ rows_of from area 0
  pub rows : rows_of (m - from) area' from ≡ cond r (with_row path value (rows_of (m - from) area from)) (rows_of (m - from) area from)
  pub behind : drop (m * 128) area' ≡ drop (m * 128) area

-- the rows from `first` up to `middle` rise, those from there up to `end` rise, and no path is in both: the table of all has all the rows
pub record Apart (area : List ℕ) (first middle end : ℕ) : Type 0 where
  pub fit : RowsFit end area
  pub low : first ≤ middle
  pub high : middle ≤ end
  pub rises : rising (rows_of (middle - first) area first) ≡ true
  pub later : rising (rows_of (end - middle) area middle) ≡ true
  pub apart : length (put_all (rows_of (end - middle) area middle) (rows_of (middle - first) area first)) ≡ end - first

-- the table of the rows up to m and of those from there up to `all`
abbrev pub laid : List ℕ → ℕ → ℕ → List Row
laid area m all = put_all (rows_of (all - m) area m) (rows_of (m - 0) area 0)

-- it is t, and no path is in both parts
pub record Laid (m : ℕ) (area area' : List ℕ) (all : ℕ) (t : List Row) : Type 0 where
  pub apart : Apart area' 0 m all
  pub table : laid area' m all ≡ t
  pub size : length area' ≡ length area

-- row `left` of those set aside stands where the row r stood, `left` places up, and the rows from r up to `high` behind it
pub record RowMerged (area area' aside : List ℕ) (first high left r : ℕ) : Type 0 where
  pub place : r ≡ first + rank (row_at aside left).key (rows_of (high - first) area first)
  pub low : first ≤ r
  pub most : r ≤ high
  pub bytes : area' ≡ put area ((r + left) * 128) (slot aside left ++ take ((high - r) * 128) (drop (r * 128) area))

-- the rows from `first` up to `end` are one table, those before them and the bytes behind them are as before
pub record Merged (area area' : List ℕ) (first middle end : ℕ) : Type 0 where
  pub fit : RowsFit end area'
  pub front : rows_of first area' 0 ≡ rows_of first area 0
  pub rows : rows_of (end - first) area' first ≡ put_all (rows_of (end - middle) area middle) (rows_of (middle - first) area first)
  pub behind : drop (end * 128) area' ≡ drop (end * 128) area
