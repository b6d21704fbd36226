-- What the parts of the upkeep calls leave of a store that passed questions 1 and 2.
-- Relies on the paper's definitions and on what a rebuild promises. Definitions only.
use Rattle.std.specs.Prelude.{ℕ, ◌≡◌, List, Bool, true, false, length}
use Rattle.image.specs.Image.{nodes_of}
use Rattle.image.specs.Sound.{sound, table_of}
use Rattle.image.specs.Upkeep.{reachable_nodes, reachable_at}
use Rattle.image.specs.Calls.{Upkeep}
use Rattle.image.specs.Contract.{upkeep_rule}
use Rattle.rebuild.specs.Rebuild.{Rebuilt, cleared}

-- a store that was as asked stays; another is rebuilt
pub record Stayed (s s' w w' : List ℕ) : Type 0 where
  pub same : s' ≡ s
  pub work : w' ≡ cleared (nodes_of (length s)) w

unfoldable pub Upkept : Bool → List ℕ → List ℕ → List ℕ → List ℕ → Type 0
Upkept true s s' w w' = Stayed s s' w w'
Upkept false s s' w w' = Rebuilt s s' w w'

-- what an accepted flush or heal of the node of this number leaves
pub record Upheld (u : Upkeep) (node : ℕ) (s s' w w' : List ℕ) : Type 0 where
  pub is_sound : sound s' ≡ true
  pub table : table_of s' ≡ table_of s
  pub size : length s' ≡ length s
  pub work : w' ≡ cleared (nodes_of (length s)) w
  pub rule : upkeep_rule u (reachable_at node (reachable_nodes s)) (reachable_nodes s) (reachable_nodes s') ≡ true
