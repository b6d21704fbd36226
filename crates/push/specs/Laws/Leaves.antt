-- A leaf that takes messages: its pairs after each, and the store with its page written anew. Definitions only.
-- A put keeps the pairs before its key and those after it, with its own between them; LeafLaws joins this to `apply`.
use Rattle.std.specs.Prelude.{ℕ, List, [], ◌∷◌, ◌++◌, Bool, not, cond, length}
use Rattle.image.specs.Bytes.{same, before, begins, shared}
use Rattle.image.specs.Entry.{Message, puts, drops, clears, Entry, pair, child, message}
use Rattle.laws.specs.Encode.{bytes_of_all}
use Rattle.laws.specs.PushDown.{touches}
use Rattle.laws.specs.WriteNode.{write_node}
use Rattle.laws.specs.Page.{page}
use Rattle.lookup.specs.Look.{listing}
use Rattle.push.specs.Laws.Arriving.{lowered_by}

-- the pairs whose key passes a test
unfoldable pub kept : (List ℕ → Bool) → List Entry → List Entry
kept test [] = []
kept test (pair k v ∷ es) = cond (test k) (pair k v ∷ kept test es) (kept test es)
kept test (child i k ∷ es) = kept test es
kept test (message m ∷ es) = kept test es

unfoldable pub pairs_after : Message → List Entry → List Entry
pairs_after (puts k v) es = kept (λ q. before q k) es ++ pair k v ∷ kept (λ q. before k q) es
pairs_after (drops k) es = kept (λ q. not (same k q)) es
pairs_after (clears k) es = kept (λ q. not (begins k q)) es

-- leaf i after a message
unfoldable pub applied : Message → ℕ → List ℕ → List ℕ
applied m i s = write_node s i (page 1 1 (bytes_of_all (pairs_after m (listing s i))))

-- a leaf with these pivots takes what an entry of its parent brings, and what all bring
unfoldable pub leaf_takes_one : Entry → ℕ → List ℕ → List ℕ → List ℕ → List ℕ
leaf_takes_one (pair k v) i lo hi s = s
leaf_takes_one (child j k) i lo hi s = s
leaf_takes_one (message m) i lo hi s = cond (touches m lo hi) (applied (lowered_by (length (shared lo hi)) m) i s) s

unfoldable pub leaf_takes : List Entry → ℕ → List ℕ → List ℕ → List ℕ → List ℕ
leaf_takes [] i lo hi s = s
leaf_takes (e ∷ es) i lo hi s = leaf_takes es i lo hi (leaf_takes_one e i lo hi s)
