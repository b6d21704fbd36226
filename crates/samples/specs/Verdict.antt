-- What an image is, and what upkeep of a node made of one, each as one record: by the definitions (`verdict_of`, `kept_of`), and as the
-- second program prints it in Data.
use Rattle.std.specs.Prelude.{ℕ, ◌-◌, List, [], ◌++◌, Bool, true, false, cond, length, replicate}
use Rattle.image.specs.Prelude.{Option, none, some}
use Rattle.image.specs.Table.{Row}
use Rattle.image.specs.Image.{nodes_of}
use Rattle.image.specs.Sound as defined
use Rattle.image.specs.Upkeep as defined-upkeep

-- Whether it is sound and settled, how many nodes are in use (node 0 counted) and free, and the table; of an unsound image nothing more.
pub record Verdict : Type 0 where
  pub sound : Bool
  pub settled : Bool
  pub used : ℕ
  pub free : ℕ
  pub table : List Row

unfoldable pub verdict_of : List ℕ → Verdict
verdict_of image =
    cond (defined.sound image)
    (record { sound = true; settled = defined-upkeep.settled image; used = defined-upkeep.used image; free = defined-upkeep.free_nodes image; table = defined.table_of image })
    (record { sound = false; settled = false; used = 0; free = 0; table = [] })

-- A store before and after upkeep of the node of this number.
pub record Change : Type 0 where
  pub node : ℕ
  pub before : List ℕ
  pub after : List ℕ

-- Whether nothing waits in the node's level where it was (a part of flush's rule), whether the whole rules of flush and of heal hold,
-- and whether no node gains a message.
pub record Kept : Type 0 where
  pub none_waits : Bool
  pub flushed : Bool
  pub healed : Bool
  pub none_gains : Bool

unfoldable pub kept_at : Option defined-upkeep.Reachable → List defined-upkeep.Reachable → List defined-upkeep.Reachable → Kept
kept_at none was after = record { none_waits = false; flushed = false; healed = false; none_gains = false }
kept_at (some x) was after =
    record {
      none_waits = defined-upkeep.none_waits x after;
      flushed = defined-upkeep.flushed x was after;
      healed = defined-upkeep.healed x was after;
      none_gains = defined-upkeep.none_gains was after;
    }

unfoldable pub kept_of : Change → Kept
kept_of c =
    kept_at (defined-upkeep.reachable_at c.node (defined-upkeep.reachable_nodes c.before))
    (defined-upkeep.reachable_nodes c.before)
    (defined-upkeep.reachable_nodes c.after)

-- how many nodes changed
unfoldable pub changes_of : Change → ℕ
changes_of c = defined-upkeep.changed (nodes_of (length c.before)) c.before c.after

-- the bytes of a node, with the zeros that follow
abbrev pub node : List ℕ → List ℕ
node s = s ++ replicate (1024 - length s) 0

abbrev pub row : List ℕ → List ℕ → Row
row p v = record { key = p; value = v }
