-- The bytes of the new root's entries, and what its writer asks. Definitions only.
use Rattle.std.specs.Prelude.{ℕ, ◌+◌, ◌*◌, ◌≤◌, ◌<◌, List, [], ◌++◌, length}
use Rattle.image.specs.Entry.{child}
use Rattle.laws.specs.Encode.{bytes_of}
use Rattle.slice.specs.declared.Parts.{Parts}
use Rattle.slice.specs.Point.{fresh_in}
use Rattle.slice.specs.Right.{pieces_in, PartsFit, all_line}
use Rattle.swing.specs.declared.root.Half.{Half}
use Rattle.swing.specs.Cuts.{front}

unfoldable pub half_in : List ℕ → ℕ → ℕ → Parts → Half
half_in free place block parts = record { number = fresh_in free place; pieces = record { parts = parts; edge = fresh_in free block; rest = fresh_in free (block + 1) } }

-- the node under the path, and the pieces behind its range
unfoldable pub half_line : List ℕ → Half → List ℕ → List ℕ
half_line bound half out = bytes_of (child half.number (front bound)) ++ all_line 0 (pieces_in half.pieces.edge half.pieces.rest bound out half.pieces.parts)

unfoldable pub root_line : ℕ → List ℕ → Half → List ℕ → List ℕ → Half → List ℕ → List ℕ
root_line left bound low behind limit high last = bytes_of (child left []) ++ (half_line bound low behind ++ half_line limit high last)

pub record HalfFits (bound : List ℕ) (half : Half) (out : List ℕ) : Type 0 where
  pub ends : 1 ≤ length bound
  pub small_number : half.number < 65536
  pub small_edge : half.pieces.edge < 65536
  pub small_rest : half.pieces.rest < 65536
  pub fit : PartsFit (length out) half.pieces.parts

pub record RootAsks (s : List ℕ) (h : ℕ) (bound limit free : List ℕ) (low : Half) (behind : List ℕ) (high : Half) (last : List ℕ) : Type 0 where
  pub levels : h ≤ 8
  pub enough : 10 * h + 1 ≤ length free
  pub room : fresh_in free (10 * h) * 1024 + 1024 ≤ length s
  pub lower : HalfFits bound low behind
  pub higher : HalfFits limit high last
  pub size : length (root_line (fresh_in free (7 * h)) bound low behind limit high last) ≤ 1016
