-- A step of heal as two nodes written: what the code does is the tree with the pair merged, sound, and the same table.
use Rattle.std.specs.Prelude.{ℕ, ◌+◌, ◌*◌, ◌≤◌, ◌<◌, ◌≡◌, ◌++◌, true, length}
use Rattle.image.specs.Prelude.{false≢true, arith}
use Rattle.image.specs.Image.{Tree, unread, leaf, interior, nodes_of}
use Rattle.laws.specs.Upkeep.Merge.{tall}
use Rattle.laws.specs.Page.{child_entries, pair_entries}
use Rattle.laws.specs.Upkeep.Size.{message_entries, entries_for, own_bytes}
use Rattle.laws.specs.Upkeep.Page.{page-length}
use Rattle.laws.specs.Upkeep.HealImage.{page_for}

pub page-for-length : (t : Tree) (level : ℕ) → tall t level ≡ true → own_bytes t ≤ 1016 → length (page_for level t) ≡ 1024
unfolding tall page_for own_bytes entries_for
page-for-length (unread i) level h fits = absurd (false≢true h)
page-for-length (leaf i rs) level h fits = page-length 0x0001 level (pair_entries rs) fits
page-for-length (interior i f ms) level h fits = page-length 0x0002 level (child_entries f ++ message_entries ms) fits

pub whole-fits : (len j : ℕ) → j < nodes_of len → 1024 * j + 1024 ≤ len
unfolding nodes_of
whole-fits len j h = omega arith
