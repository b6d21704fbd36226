-- What the messages of a node bring to one of its children: pivots and suffixes are without what the node lifts. Definitions only.
-- Relies on PushDown's `touches` and `lowered`; ArrivingLaws joins it to `sent_all` of laws/Upkeep.
use Rattle.std.specs.Prelude.{ℕ, List, [], ◌∷◌, ◌++◌, cond, length, drop}
use Rattle.image.specs.Bytes.{shared}
use Rattle.image.specs.Entry.{Message, puts, drops, clears, Entry, pair, child, message}
use Rattle.laws.specs.Encode.{bytes_of}
use Rattle.laws.specs.PushDown.{touches}

-- the messages among the entries of a node, oldest first
unfoldable pub waiting : List Entry → List Message
waiting [] = []
waiting (pair k v ∷ es) = waiting es
waiting (child i k ∷ es) = waiting es
waiting (message m ∷ es) = m ∷ waiting es

-- a message in a child that lifts so many bytes more: a suffix that is no longer becomes empty
unfoldable pub lowered_by : ℕ → Message → Message
lowered_by k (puts p v) = puts (drop k p) v
lowered_by k (drops p) = drops (drop k p)
lowered_by k (clears p) = clears (drop k p)

-- the messages that touch a child with these pivots, in the child's own form
unfoldable pub arriving : List Message → List ℕ → List ℕ → List Message
arriving [] lo hi = []
arriving (m ∷ ms) lo hi = cond (touches m lo hi) (lowered_by (length (shared lo hi)) m ∷ arriving ms lo hi) (arriving ms lo hi)

-- the bytes that an entry of the node brings to the child, and that all do
unfoldable pub brought : Entry → List ℕ → List ℕ → List ℕ
brought (pair k v) lo hi = []
brought (child i k) lo hi = []
brought (message m) lo hi = cond (touches m lo hi) (bytes_of (message (lowered_by (length (shared lo hi)) m))) []

unfoldable pub brought_all : List Entry → List ℕ → List ℕ → List ℕ
brought_all [] lo hi = []
brought_all (e ∷ es) lo hi = brought e lo hi ++ brought_all es lo hi
