-- One level above, marks and pages.
use Rattle.std.specs.Prelude.{ℕ, suc, ◌+◌, ◌-◌, ◌≤◌, ◌<◌, ◌≡◌, List, [], ◌∷◌, length, drop}
use Rattle.image.specs.Prelude.{ap, arith, length-append, length-drop}
use Rattle.image.specs.Bytes.{shared}
use Rattle.image.specs.Entry.{child}
use Rattle.image.specs.Image.{Branch}
use Rattle.laws.specs.Encode.{bytes_of, bytes_of_all, child-size}
use Rattle.packed.specs.Form.Chunk.{total, groups}
use Rattle.packed.specs.Form.Marks.{branch_weight, branch_entries}
use Rattle.packed.specs.Rows.Area.{RowsFit}
use Rattle.packed.specs.Rows.Branches.{mark_at, low_of_row, branches_of, node_end, node-ends, high_of_row}
use Rattle.packed.specs.Pages.Entries.{branch_bytes}
use Rattle.packed.specs.Pages.Nodes.{node_bytes_of}

-- a node fits
entries-weight : (k : ℕ) (xs : List Branch) → length (bytes_of_all (branch_entries k xs)) ≤ total branch_weight xs
unfolding bytes_of_all branch_entries total
entries-weight k [] = omega arith
entries-weight k (x ∷ xs) =
    let a = length-append (bytes_of (child x.number (drop k x.pivot))) (bytes_of_all (branch_entries k xs)) in
    let b = child-size x.number (drop k x.pivot) in
    let c = length-drop k x.pivot in
    let d = entries-weight k xs in
    omega arith

-- how many nodes from row i on
unfoldable pub nodes_from : ℕ → List ℕ → ℕ → ℕ
nodes_from m area i = length (groups branch_weight (branches_of (m - i) area i))

module _ (m : ℕ) (area : List ℕ) (fit : RowsFit m area) (i : ℕ) (h : i < m) (o : 1 ≤ mark_at area i) (w : ℕ) (e : 6 + length (low_of_row area i) ≡ w)
    (j : ℕ) (f : j ≡ node_end m area (i + 1) w) where
  pub node-fits : node_bytes_of m area i j ≤ 1016
  unfolding node_bytes_of branch_bytes
  node-fits =
      let c = (node-ends m area fit i h o w e j f).fits in
      let g = entries-weight (length (shared (low_of_row area i) (high_of_row m area j))) (branches_of (j - i) area i) in
      omega arith

  pub nodes-step : nodes_from m area i ≡ suc (nodes_from m area j)
  unfolding nodes_from
  nodes-step = ap length (node-ends m area fit i h o w e j f).groups_are
