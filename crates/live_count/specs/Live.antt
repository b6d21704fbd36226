-- The number of paths present under a node, told entry by entry: an entry counts when it decides its path, that is when no newer message of
-- its own node and no message of a node above says anything of that path. Definitions only; LiveLaws shows that this is the length of the table.
use Rattle.std.specs.Prelude.{ℕ, ◌+◌, ◌<◌, ◌≡◌, List, [], ◌∷◌, ◌++◌, Bool, true, false, ◌&&◌, length, drop, leb}
use Rattle.image.specs.Bytes.{shared}
use Rattle.image.specs.Path.{path_limit}
use Rattle.image.specs.Entry.{Message, puts, drops, clears}
use Rattle.image.specs.Table.{Row}
use Rattle.image.specs.Image.{Tree, unread, leaf, interior, Forest, end, tree}
use Rattle.image.specs.Meaning.{Said, nothing, says, newest, high_of}
use Rattle.laws.specs.Reading.Relative.{lifts}

-- the messages say nothing
unfoldable pub holds_no_message : Said → Bool
holds_no_message nothing = true
holds_no_message (says v) = false

unfoldable pub one : Bool → ℕ
one true = 1
one false = 0

-- a path that is not too long: the test at the root, where no message stands above
unfoldable pub short : List ℕ → Bool
short q = leb (length q) path_limit

-- a test that no path of more than 64 bytes passes
unfoldable pub Shortens : (List ℕ → Bool) → Type 0
Shortens ok = (q : List ℕ) → 64 < length q → ok q ≡ false

-- the pairs of a leaf whose full path passes; `prefix` is what the node lifts
unfoldable pub count_rows : (List ℕ → Bool) → List ℕ → List Row → ℕ
count_rows ok prefix [] = 0
count_rows ok prefix (r ∷ rs) = one (ok (prefix ++ r.key)) + count_rows ok prefix rs

-- the puts whose full path passes and of which no later message of the node says anything
unfoldable pub count_puts : (List ℕ → Bool) → List ℕ → List Message → ℕ
count_puts ok prefix [] = 0
count_puts ok prefix (puts s v ∷ ms) = one (ok (prefix ++ s) && holds_no_message (newest ms s)) + count_puts ok prefix ms
count_puts ok prefix (drops s ∷ ms) = count_puts ok prefix ms
count_puts ok prefix (clears s ∷ ms) = count_puts ok prefix ms

-- The entries under a node that decide a path that passes. `prefix` is what the node lifts, hi its high pivot without that.
unfoldable mutual
  pub live_here : Tree → (List ℕ → Bool) → List ℕ → List ℕ → ℕ
  live_here (unread i) ok prefix hi = 0
  live_here (leaf i rs) ok prefix hi = count_rows ok prefix rs
  live_here (interior i f ms) ok prefix hi =
      count_puts ok prefix ms + live_branches f (λ q. ok q && holds_no_message (newest ms (drop (length prefix) q))) prefix hi

  pub live_branches : Forest → (List ℕ → Bool) → List ℕ → List ℕ → ℕ
  live_branches end ok prefix hi = 0
  live_branches (tree s t f) ok prefix hi =
      live_here t ok (prefix ++ shared s (high_of [] hi f)) (drop (lifts s (high_of [] hi f)) (high_of [] hi f)) + live_branches f ok prefix hi
