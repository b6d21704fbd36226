-- The pairs of the rows from i up to j, as the bytes of a leaf, without the first k bytes of each path.
-- These name what the leaf writer's contracts cite; the page itself is `leaf_page` of specs/Rows/Steps.
use Rattle.std.specs.Prelude.{ℕ, ◌-◌, List, length}
use Rattle.image.specs.Bytes.{shared}
use Rattle.laws.specs.Encode.{bytes_of_all}
use Rattle.packed.specs.Form.Packed.{short_rows}
use Rattle.laws.specs.Page.{pair_entries}
use Rattle.packed.specs.Rows.Area.{rows_of}
use Rattle.packed.specs.Rows.Branches.{low_of_row}
use Rattle.packed.specs.Rows.Steps.{high_at}

-- n rows from row i on
unfoldable pub pair_bytes : ℕ → ℕ → List ℕ → ℕ → List ℕ
pair_bytes k n area i = bytes_of_all (pair_entries (short_rows k (rows_of n area i)))

-- how many bytes the leaf lifts that holds the rows from i up to j, and how many its entries take
unfoldable pub leaf_lifts : ℕ → List ℕ → ℕ → ℕ → ℕ
leaf_lifts m area i j = length (shared (low_of_row area i) (high_at m area j))

unfoldable pub leaf_bytes : ℕ → List ℕ → ℕ → ℕ → ℕ
leaf_bytes m area i j = length (pair_bytes (leaf_lifts m area i j) (j - i) area i)
