-- What the writers of a node rely on: its entries, read from a copy of its page, may be written again. Definitions only.
use Rattle.std.specs.Prelude.{ℕ, ◌+◌, ◌*◌, ◌<◌, ◌≤◌, ◌≡◌, List, true, length}
use Rattle.image.specs.Entry.{Entry}
use Rattle.laws.specs.Encode.{bytes_of_all}
use Rattle.merge.specs.Laws.Joined.{small_entries}

pub record Room (s : List ℕ) (num level : ℕ) (es : List Entry) : Type 0 where
  pub inside : num * 1024 + 1024 ≤ length s
  pub low : level < 65536
  pub small : small_entries es ≡ true
  pub fits : length (bytes_of_all es) ≤ 1016
