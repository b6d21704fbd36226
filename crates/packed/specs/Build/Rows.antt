-- What a caller is told who puts the rows into the area.
-- A row is path length, value length, u16 mark, 64 bytes for the path, 60 for the value (specs/Rows/Area).
use Rattle.std.specs.Prelude.{ℕ, ◌+◌, ◌*◌, ◌≡◌, List, [], ◌∷◌, ◌++◌, drop}
use Rattle.packed.specs.Rows.Area.{rows_of, RowsFit}

-- row i is (path, value), the rows before it and the bytes behind it are as before
pub record RowPut (i : ℕ) (area area' path value : List ℕ) : Type 0 where
  pub fit : RowsFit (i + 1) area'
  pub rows : rows_of (i + 1) area' 0 ≡ rows_of i area 0 ++ (record { key = path; value = value } ∷ [])
  pub behind : drop (i * 128 + 128) area' ≡ drop (i * 128 + 128) area
