-- What the check counts in a tree: pairs, waiting messages and nodes, each shown up to 65,535 so that no sum of the code can overflow.
-- Relies on the tree of image (Image), its numbers (Sound) and its pairs (laws: LiveCount). Definitions only.
use Rattle.std.specs.Prelude.{ℕ, ◌+◌, List, [], ◌∷◌, length}
use Rattle.image.specs.Entry as defined
use Rattle.image.specs.Image.{Tree, unread, leaf, interior, Forest, end, tree}
use Rattle.image.specs.Sound.{numbers, numbers_in}
use Rattle.octets.specs.Cap.{cap}
use Rattle.laws.specs.LiveCount.{pair_count, pair_count_in}
use Rattle.tree_check.specs.declared.Tally.{Tally}

-- the messages that wait in the nodes of a tree
unfoldable mutual
  pub message_count : Tree → ℕ
  message_count (unread i) = 0
  message_count (leaf i rs) = 0
  message_count (interior i f ms) = length ms + message_count_in f

  pub message_count_in : Forest → ℕ
  message_count_in end = 0
  message_count_in (tree s t f) = message_count t + message_count_in f

pub record Count : Type 0 where
  pub pairs : ℕ
  pub messages : ℕ
  pub nodes : ℕ

unfoldable pub plus : Count → Count → Count
plus a b = record { pairs = a.pairs + b.pairs; messages = a.messages + b.messages; nodes = a.nodes + b.nodes }

unfoldable pub count_of : Tree → Count
count_of t = record { pairs = pair_count t; messages = message_count t; nodes = length (numbers t) }

unfoldable pub count_in : Forest → Count
count_in f = record { pairs = pair_count_in f; messages = message_count_in f; nodes = length (numbers_in f) }

abbrev pub only_pairs : ℕ → Count
only_pairs n = record { pairs = n; messages = 0; nodes = 1 }

abbrev pub only_messages : ℕ → Count
only_messages n = record { pairs = 0; messages = n; nodes = 0 }

abbrev pub only_node : Count
only_node = record { pairs = 0; messages = 0; nodes = 1 }

-- the child of number i, the last one, and the messages after it
abbrev pub last_count : (ℕ → Tree) → ℕ → List defined.Entry → Count
last_count below i ms = plus (count_of (below i)) (only_messages (length ms))

-- the child of number i, and what the entries after it hold: further children, then messages
unfoldable pub branches_count : (ℕ → Tree) → ℕ → List defined.Entry → Count
branches_count below i [] = count_of (below i)
branches_count below i (defined.pair k v ∷ es) = plus (count_of (below i)) (only_messages (length (defined.pair k v ∷ es)))
branches_count below i (defined.child j q ∷ es) = plus (count_of (below i)) (branches_count below j es)
branches_count below i (defined.message m ∷ es) = plus (count_of (below i)) (only_messages (length (defined.message m ∷ es)))

-- a count as the code shows it, and the sum of two that are shown
unfoldable pub capped : Count → Tally
capped c = record { pairs = cap c.pairs; messages = cap c.messages; nodes = cap c.nodes }

unfoldable pub tally_sum : Tally → Tally → Tally
tally_sum a b = record { pairs = cap (a.pairs + b.pairs); messages = cap (a.messages + b.messages); nodes = cap (a.nodes + b.nodes) }
