-- What the code of the walk carries down, and the count of a node's own entries, as the readers list them. Definitions only.
use Rattle.std.specs.Prelude.{ℕ, ◌+◌, ◌≤◌, ◌≡◌, List, [], ◌∷◌, ◌++◌, Bool, true, false, ◌&&◌, length, take, drop}
use Rattle.std.specs.List.{list_all, All}
use Rattle.image.specs.Entry as defined
use Rattle.image.specs.Image.{Branch, header_of, tree_of, tree_at, nodes_of, forest_of}
use Rattle.image.specs.Sound.{sound_tree, in_range, numbers, lowest, highest}
use Rattle.laws.specs.Reading.Relative.{usable, usable_in}
use Rattle.node.specs.Lent.{left_of}
use Rattle.node.specs.Search.Latest.{newest_among}
use Rattle.live_count.specs.Live.{holds_no_message, one, short}
use Rattle.live_count.specs.declared.trail.Stage.{Stage}
use Rattle.live_count.specs.declared.trail.Trail.{Trail}

-- the nodes of a trail, the root first
abbrev pub stages_of : Trail → List Stage
stages_of t = take t.depth t.stages

-- a node has no message on a path; its messages see what follows the bytes that it lifts
abbrev pub says_nothing : List ℕ → Stage → Bool
says_nothing q x = holds_no_message (newest_among (left_of x.entries) (drop x.lift q))

-- a path is short, and none of the nodes of a trail has a message on it
unfoldable pub passes : List Stage → List ℕ → Bool
passes xs q = short q && list_all (says_nothing q) xs

abbrev pub passing : Trail → List ℕ → Bool
passing t q = passes (stages_of t) q

-- the nodes of a trail lift at most n bytes
abbrev pub LiftsWithin : ℕ → Trail → Type 0
LiftsWithin n t = All (λ x. x.lift ≤ n) (stages_of t)

-- the trail r for the children of a node with these entries, whose trail is t: a path passes r if it passes t and the node's messages say nothing of it
pub record Deeper (es : List defined.Entry) (lift : ℕ) (t r : Trail) : Type 0 where
  pub test : (q : List ℕ) → passing r q ≡ passing t q && holds_no_message (newest_among es (drop lift q))
  pub depth : r.depth ≤ t.depth + 1

-- an entry decides its path: es are the entries after it in its node
unfoldable pub decides : (List ℕ → Bool) → List ℕ → defined.Entry → List defined.Entry → Bool
decides ok prefix (defined.pair k v) es = ok (prefix ++ k)
decides ok prefix (defined.child i k) es = false
decides ok prefix (defined.message (defined.puts k v)) es = holds_no_message (newest_among es k) && ok (prefix ++ k)
decides ok prefix (defined.message (defined.drops k)) es = false
decides ok prefix (defined.message (defined.clears k)) es = false

unfoldable pub count_among : (List ℕ → Bool) → List ℕ → List defined.Entry → ℕ
count_among ok prefix [] = 0
count_among ok prefix (e ∷ es) = one (decides ok prefix e es) + count_among ok prefix es

-- What the walk relies on at a node of a level, under a trail; and at the children of a node.
pub record Ready (s : List ℕ) (level num : ℕ) (t : Trail) : Type 0 where
  pub reads : usable (nodes_of (length s)) (tree_at level s num) ≡ true
  pub deep : t.depth + level ≤ 8

pub record ReadyBranches (s : List ℕ) (level : ℕ) (ks : List Branch) (t : Trail) : Type 0 where
  pub reads : usable_in (nodes_of (length s)) (forest_of (λ j. tree_at level s j) ks) ≡ true
  pub deep : t.depth + level ≤ 8

-- What the count relies on: the image is sound but for the live count.
pub record Countable (s : List ℕ) : Type 0 where
  pub tree : sound_tree (tree_of s) lowest highest ≡ true
  pub range : in_range (nodes_of (length s)) (numbers (tree_of s)) ≡ true
  pub levels : (header_of s).levels ≤ 8
