-- A store that is ready for the swing, and how it came from the store before.
-- Relies on slice/Moving's Free (what the swing asks of the free nodes) and on the paper's definitions.
use Rattle.std.specs.Prelude.{ℕ, ◌+◌, ◌*◌, ◌≤◌, ◌≡◌, List, Bool, true, ◌&&◌, length, drop, leb}
use Rattle.image.specs.Image.{nodes_of, header_of}
use Rattle.image.specs.Sound.{sound, table_of}
use Rattle.image.specs.Upkeep.{settled}
use Rattle.image.specs.Calls.{work_per_node}
use Rattle.image.specs.Contract.{Bounded}
use Rattle.packed.specs.Build.Handed.{listed}
use Rattle.slice.specs.Moving.MoveImage.{Free}

-- the test: no message, at most 7 levels, 10 × L + 1 free nodes
unfoldable pub may_swing : Bool → ℕ → ℕ → Bool
may_swing quiet levels free = quiet && (leb levels 7 && leb (10 * levels + 1) free)

pub record Prepared (s s' w w' numbers : List ℕ) (r : ℕ) : Type 0 where
  pub size : length s' ≡ length s
  pub is_sound : sound s' ≡ true
  pub is_settled : settled s' ≡ true
  pub table : table_of s' ≡ table_of s
  pub low : (header_of s').levels ≤ 7
  pub few_listed : r ≤ 1024
  pub supply : Free s' (listed r numbers 0)
  pub kept : Bounded s → s' ≡ s
  pub work_size : length w' ≡ length w
  pub work_later : drop (work_per_node * nodes_of (length s)) w' ≡ drop (work_per_node * nodes_of (length s)) w
