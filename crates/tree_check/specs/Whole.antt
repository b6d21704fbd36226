-- The whole check: all that makes an image sound but its live count, and what the check of an image promises.
-- Relies on image's `sound` and on Count and Answer. Definitions only.
use Rattle.std.specs.Prelude.{ℕ, ◌<◌, ◌≡◌, List, cond, length, get_or, is_some, None, Some}
use Rattle.image.specs.Image.{nodes_of, tree_of}
use Rattle.image.specs.Sound.{numbers, is_in}
use Rattle.laws.specs.ButLive.{sound_but_live}
use Rattle.tree_check.specs.Count.{count_of}
use Rattle.tree_check.specs.Answer.{Checked, Counts}

-- one byte for each node: 1 where the tree reaches it, and 0 elsewhere
pub record Marks (image seen : List ℕ) : Type 0 where
  pub marked : (i : ℕ) → i < nodes_of (length image) → get_or seen i 0 ≡ cond (is_in i (numbers (tree_of image))) 1 0

-- after a sound answer the nodes are marked
unfoldable pub Marked : List ℕ → List ℕ → Checked → Type 0
Marked image seen None = Unit
Marked image seen (Some t) = Marks image seen

pub record Verified (image : List ℕ) (r : Checked) (seen : List ℕ) : Type 0 where
  pub answer : is_some r ≡ sound_but_live image
  pub counts : Counts (count_of (tree_of image)) r
  pub marks : Marked image seen r
