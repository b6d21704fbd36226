-- What a flush by one level promises, by its answer (whether all is done), and what the flush of a node relies on. Definitions only.
use Rattle.std.specs.Prelude.{ℕ, ◌≡◌, List, [], Bool, true, false, length}
use Rattle.image.specs.Prelude.{some}
use Rattle.image.specs.Image.{whole_nodes, tree_of}
use Rattle.image.specs.Sound.{sound, highest}
use Rattle.image.specs.Upkeep.{reachable_at, reachable_nodes}
use Rattle.image.specs.Contract.{is_interior}
use Rattle.push.specs.Laws.High.{high_here}
use Rattle.push.specs.Laws.PushedDown.{PushedDown}

-- done: the image is sound, its table the same, and no node of the level holds a message in the node's range; no room: no byte is changed
unfoldable pub Outcome : List ℕ → ℕ → Bool → List ℕ → Type 0
Outcome s n true s' = PushedDown s n s'
Outcome s n false s' = s' ≡ s

pub record Pushable (s : List ℕ) (n : ℕ) (hi : List ℕ) : Type 0 where
  pub whole : whole_nodes (length s) ≡ true
  pub is_sound : sound s ≡ true
  pub reached : is_interior (reachable_at n (reachable_nodes s)) ≡ true
  pub high : high_here n (tree_of s) [] highest ≡ some hi
