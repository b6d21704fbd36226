-- What the passes of `build` promise: the leaves, one level above, all levels above. The code knows a level by its marks alone; the definitions of
-- specs/Form say which level that is.
use Rattle.std.specs.Prelude.{ℕ, ◌+◌, ◌*◌, ◌-◌, ◌≤◌, ◌≡◌, List, [], length}
use Rattle.image.specs.Image.{Branch}
use Rattle.packed.specs.Form.Chunk.{groups}
use Rattle.packed.specs.Form.Packed.{pair_weight, leaf_level, leaves, Item, Built, climb}
use Rattle.laws.specs.Page.{number_of}
use Rattle.packed.specs.Form.Tidy.{Page, write_all}
use Rattle.packed.specs.Form.Sweep.{climb_pages}
use Rattle.packed.specs.Form.Marks.{branch_of, mapped}
use Rattle.packed.specs.Rows.Area.{rows_of, RowsFit}
use Rattle.packed.specs.Rows.Branches.{mark_at, branches_of, node_pages_from, above_from}
use Rattle.packed.specs.Rows.Steps.{leaf_pages_from}
use Rattle.packed.specs.Rows.Remark.{Stays}
use Rattle.packed.specs.Build.Handed.{handed_from, handed}
use Rattle.packed.specs.Pages.Raise.{nodes_from}
use Rattle.packed.specs.Form.Tower.{room, Level}

-- how many leaves from row i on, and what the level says of them
unfoldable pub leaves_from : ℕ → List ℕ → ℕ → ℕ
leaves_from m area i = length (groups pair_weight (rows_of (m - i) area i))

unfoldable pub leaf_branches : ℕ → List ℕ → ℕ → List ℕ → List ℕ → List Branch
leaf_branches m area i lo nums = mapped branch_of (leaf_level nums lo (groups pair_weight (rows_of (m - i) area i)))

-- what the pass ensures: made is how many leaves it wrote
pub record LeavesMade (m : ℕ) (numbers area₀ area store₀ store : List ℕ) (made : ℕ) : Type 0 where
  pub stays : Stays m area₀ area
  pub marks : branches_of m area 0 ≡ leaf_branches m area₀ 0 [] (handed numbers)
  pub pages : store ≡ write_all (leaf_pages_from m area₀ 0 [] (handed numbers)) store₀
  pub counted : made ≡ leaves_from m area₀ 0
  pub marked : 1 ≤ mark_at area 0

-- what the pass ensures: from is how many numbers were used before it, made how many after it
pub record LevelMade (l m : ℕ) (numbers : List ℕ) (from : ℕ) (area₀ area store₀ store : List ℕ) (made : ℕ) : Type 0 where
  pub stays : Stays m area₀ area
  pub marks : branches_of m area 0 ≡ above_from m area₀ 0 (handed_from numbers from)
  pub pages : store ≡ write_all (node_pages_from l m area₀ 0 (handed_from numbers from)) store₀
  pub counted : made ≡ from + nodes_from m area₀ 0
  pub marked : 1 ≤ mark_at area 0

-- the marks say the nodes xs; this is where the climb stands that ends in the tree b and the store s
pub record Reached (m : ℕ) (numbers area store : List ℕ) (level used : ℕ) (b : Built) (s : List ℕ) (xs : List Item) (fuel : ℕ) : Type 0 where
  pub stands : Level level xs
  pub marks : branches_of m area 0 ≡ mapped branch_of xs
  pub room_left : length xs ≤ room fuel
  pub enough : length xs ≤ 2 * length (handed_from numbers used) + 1
  pub levels_left : level + fuel ≡ 8
  pub pages : write_all (climb_pages fuel level (handed_from numbers used) xs) store ≡ s
  pub built : climb fuel level (handed_from numbers used) xs ≡ b

-- what holds before each turn, and what `ascend` asks for
pub record Ascends (m : ℕ) (numbers area₀ area store₀ store : List ℕ) (level used count : ℕ) (b : Built) (s : List ℕ) : Type 0 where
  pub items : List Item
  pub fuel : ℕ
  pub counted : count ≡ length items
  pub reached : Reached m numbers area store level used b s items fuel
  pub fit : RowsFit m area
  pub stays : Stays m area₀ area
  pub size : length store ≡ length store₀
  pub marked : 1 ≤ mark_at area 0

-- what it ensures
pub record Ascended (area store : List ℕ) (levels : ℕ) (b : Built) (s : List ℕ) : Type 0 where
  pub pages : store ≡ s
  pub root : mark_at area 0 ≡ number_of b.root
  pub height : levels ≡ b.levels
  pub low : levels ≤ 8

-- the tree above the leaves, and its pages, where the leaves took the first `made` numbers
unfoldable pub tree_above : ℕ → List ℕ → List ℕ → ℕ → Built
tree_above m given area made = climb 7 1 (handed_from given made) (leaves (handed given) (rows_of m area 0))

unfoldable pub pages_above : ℕ → List ℕ → List ℕ → ℕ → List Page
pages_above m given area made = climb_pages 7 1 (handed_from given made) (leaves (handed given) (rows_of m area 0))
