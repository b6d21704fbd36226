-- Document 01, "Upkeep": what flush, heal, settle and tidy leave; and the counts that demand 3's bound speaks of.
use Rattle.std.specs.Prelude.{ℕ, zero, suc, ◌+◌, ◌-◌, ◌/◌, List, [], ◌∷◌, ◌++◌, Bool, true, false, ◌&&◌, ◌||◌, not, cond, length, drop, leb, eqb}
use Rattle.image.specs.Prelude.{Option, none, some}
use Rattle.image.specs.Bytes.{same, before, shared}
use Rattle.image.specs.Entry.{Message, puts, drops, clears, pivot_limit}
use Rattle.image.specs.Table.{Row}
use Rattle.image.specs.Image.{Tree, unread, leaf, interior, Forest, end, tree, node_bytes, nodes_of, header_of, tree_of, entries_limit}
use Rattle.image.specs.Meaning.{high_of}
use Rattle.image.specs.Sound.{lowest, highest, numbers}

-- A reachable node: its number, its level, its full pivots, its messages and its children; a leaf has neither messages nor children.
pub record Reachable : Type 0 where
  pub number : ℕ
  pub level : ℕ
  pub low : List ℕ
  pub high : List ℕ
  pub messages : List Message
  pub children : Forest

-- every reachable node of the tree of a node of this level with these pivots, in the order of a walk, depth first
unfoldable mutual
  pub reachable : Tree → ℕ → List ℕ → List ℕ → List Reachable
  reachable (unread i) level lo hi = []
  reachable (leaf i rs) level lo hi = record { number = i; level = level; low = lo; high = hi; messages = []; children = end } ∷ []
  reachable (interior i f ms) level lo hi =
      record { number = i; level = level; low = lo; high = hi; messages = ms; children = f } ∷ reachable_in f (level - 1) (shared lo hi) hi

  pub reachable_in : Forest → ℕ → List ℕ → List ℕ → List Reachable
  reachable_in end level lifted hi = []
  reachable_in (tree s t f) level lifted hi = reachable t level (lifted ++ s) (high_of lifted hi f) ++ reachable_in f level lifted hi

unfoldable pub reachable_nodes : List ℕ → List Reachable
reachable_nodes image = reachable (tree_of image) (header_of image).levels lowest highest

-- the reachable node of this number
unfoldable pub reachable_at : ℕ → List Reachable → Option Reachable
reachable_at i [] = none
reachable_at i (x ∷ xs) = cond (eqb i x.number) (some x) (reachable_at i xs)

-- it holds no message
unfoldable pub holds_no_message : Reachable → Bool
holds_no_message x = eqb (length x.messages) 0

unfoldable pub every : (Reachable → Bool) → List Reachable → Bool
every test [] = true
every test (x ∷ xs) = test x && every test xs

-- "Settled: no reachable node holds a message."
unfoldable pub settled : List ℕ → Bool
settled image = every holds_no_message (reachable_nodes image)

-- there is a string that both own
unfoldable pub overlap : Reachable → Reachable → Bool
overlap x y = before x.low y.high && before y.low x.high

-- two messages, each with its node's lifted prefix in front of its suffix, are the same
unfoldable pub same_message : List ℕ → Message → List ℕ → Message → Bool
same_message l (puts s v) k (puts q w) = same (l ++ s) (k ++ q) && same v w
same_message l (puts s v) k (drops q) = false
same_message l (puts s v) k (clears q) = false
same_message l (drops s) k (puts q w) = false
same_message l (drops s) k (drops q) = same (l ++ s) (k ++ q)
same_message l (drops s) k (clears q) = false
same_message l (clears s) k (puts q w) = false
same_message l (clears s) k (drops q) = false
same_message l (clears s) k (clears q) = same (l ++ s) (k ++ q)

-- The first messages are a sublist of the second ones, in order and with repeats counted, as full paths.
unfoldable pub is_sublist : List ℕ → List Message → List ℕ → List Message → Bool
is_sublist l [] k old = true
is_sublist l (m ∷ ms) k [] = false
is_sublist l (m ∷ ms) k (x ∷ old) = cond (same_message l m k x) (is_sublist l ms k old) (is_sublist l (m ∷ ms) k old)

-- heal, "no node gains a message": node y holds a sublist of what the node of its number held; one that was free held none
unfoldable pub gains_no_message : Reachable → Option Reachable → Bool
gains_no_message y none = holds_no_message y
gains_no_message y (some x) = is_sublist (shared y.low y.high) y.messages (shared x.low x.high) x.messages

unfoldable pub none_gains : List Reachable → List Reachable → Bool
none_gains was [] = true
none_gains was (y ∷ after) = gains_no_message y (reachable_at y.number was) && none_gains was after

-- flush, "its messages go down": no node of its level or above gains one, and the node of its number, where it is still reachable, holds none
unfoldable pub from_level : ℕ → List Reachable → List Reachable
from_level level [] = []
from_level level (y ∷ ys) = cond (leb level y.level) (y ∷ from_level level ys) (from_level level ys)

unfoldable pub emptied : Option Reachable → Bool
emptied none = true
emptied (some y) = holds_no_message y

-- "no reachable node of its level that owns any of what it owned then holds one"
unfoldable pub none_waits : Reachable → List Reachable → Bool
none_waits x after = every (λ y. not (eqb y.level x.level && overlap x y) || holds_no_message y) after

-- flush, whole: x is the node before it, `was` and `after` are the reachable nodes
unfoldable pub flushed : Reachable → List Reachable → List Reachable → Bool
flushed x was after = none_waits x after && emptied (reachable_at x.number after) && none_gains was (from_level x.level after)

-- The bytes of a leaf's pairs, and of an interior node's children, "entries rewritten for the joined range", which lifts `joined`; and
-- "pivot suffixes at most 65". An entry is 6 bytes (length, kind, and a suffix length or node number) and its suffix and value.
unfoldable pub pair_bytes : List ℕ → List ℕ → List Row → ℕ
pair_bytes joined lifted [] = 0
pair_bytes joined lifted (r ∷ rs) = 6 + length (drop (length joined) (lifted ++ r.key)) + length r.value + pair_bytes joined lifted rs

unfoldable pub child_bytes : List ℕ → List ℕ → Forest → ℕ
child_bytes joined lifted end = 0
child_bytes joined lifted (tree s t f) = 6 + length (drop (length joined) (lifted ++ s)) + child_bytes joined lifted f

unfoldable pub short_pivots : List ℕ → List ℕ → Forest → Bool
short_pivots joined lifted end = true
short_pivots joined lifted (tree s t f) = leb (length (drop (length joined) (lifted ++ s))) pivot_limit && short_pivots joined lifted f

unfoldable pub tree_bytes : List ℕ → List ℕ → Tree → ℕ
tree_bytes joined lifted (unread i) = 0
tree_bytes joined lifted (leaf i rs) = pair_bytes joined lifted rs
tree_bytes joined lifted (interior i f ms) = child_bytes joined lifted f

unfoldable pub tree_short : List ℕ → List ℕ → Tree → Bool
tree_short joined lifted (unread i) = true
tree_short joined lifted (leaf i rs) = true
tree_short joined lifted (interior i f ms) = short_pivots joined lifted f

unfoldable pub no_message : Tree → Bool
no_message (unread i) = true
no_message (leaf i rs) = true
no_message (interior i f []) = true
no_message (interior i f (m ∷ ms)) = false

-- two neighbours with the pivots lo, mid, hi "that hold no message would fit in one node .. at most 1,016 bytes"
unfoldable pub would_fit : Tree → Tree → List ℕ → List ℕ → List ℕ → Bool
would_fit t u lo mid hi =
    no_message t && no_message u
    && leb (tree_bytes (shared lo hi) (shared lo mid) t + tree_bytes (shared lo hi) (shared mid hi) u) entries_limit
    && tree_short (shared lo hi) (shared lo mid) t && tree_short (shared lo hi) (shared mid hi) u

-- no two neighbouring children would
unfoldable pub unmergeable : Forest → List ℕ → List ℕ → Bool
unmergeable end lifted hi = true
unmergeable (tree s t end) lifted hi = true
unmergeable (tree s t (tree q u f)) lifted hi =
    not (would_fit t u (lifted ++ s) (lifted ++ q) (high_of lifted hi f)) && unmergeable (tree q u f) lifted hi

unfoldable pub unmergeable_at : Reachable → Bool
unmergeable_at x = unmergeable x.children (shared x.low x.high) x.high

-- "it stays reachable with its range", its level too, and no two neighbouring children of it would fit in one node
unfoldable pub keeps_range : Reachable → Option Reachable → Bool
keeps_range x none = false
keeps_range x (some y) = eqb x.level y.level && same x.low y.low && same x.high y.high && unmergeable_at y

-- heal, whole: x is the node before it, `was` and `after` are the reachable nodes
unfoldable pub healed : Reachable → List Reachable → List Reachable → Bool
healed x was after = keeps_range x (reachable_at x.number after) && none_gains was after

-- the nodes in use, "node 0 counted"; "Free nodes are those from 1 up that are not reachable."
unfoldable pub used : List ℕ → ℕ
used image = suc (length (numbers (tree_of image)))

unfoldable pub free_nodes : List ℕ → ℕ
free_nodes image = nodes_of (length image) - used image

-- tidy: "settled, and at most a quarter of the nodes (rounded down, node 0 counted) are in use"
unfoldable pub tidied : List ℕ → Bool
tidied image = settled image && leb (used image) (nodes_of (length image) / 4)

-- "A node, node 0 too, is changed when any of its 1,024 bytes after the move differs from before": how many of the first k are
unfoldable pub changed : ℕ → List ℕ → List ℕ → ℕ
changed zero s s' = 0
changed (suc k) s s' = cond (same (node_bytes s k) (node_bytes s' k)) 0 1 + changed k s s'
