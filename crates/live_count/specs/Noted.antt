-- What the count relies on and counts with: the keys of a leaf are its own, and the messages above a node are handed down as notes.
-- Definitions only.
use Rattle.std.specs.Prelude.{ℕ, ◌≤◌, ◌≡◌, List, [], ◌∷◌, ◌++◌, Bool, true, false, ◌&&◌, length, drop, IsSome}
use Rattle.image.specs.Bytes.{shared}
use Rattle.image.specs.Path.{owns}
use Rattle.image.specs.Entry as defined
use Rattle.image.specs.Image.{Branch, tree_at, forest_of}
use Rattle.image.specs.Sound.{sound_tree, sound_forest}
use Rattle.live_count.specs.Notes.Notes.{Empty, silent}
use Rattle.live_count.specs.Live.{short}
use Rattle.live_count.specs.Walk.{passing, Deeper}
use Rattle.live_count.specs.declared.position.Position.{Position}

-- pairs alone, whose keys are from lo up to hi, and short under the prefix `prefix`
unfoldable pub keyed : List ℕ → List ℕ → List ℕ → List defined.Entry → Bool
keyed prefix lo hi [] = true
keyed prefix lo hi (defined.pair k v ∷ es) = owns lo hi k && short (prefix ++ k) && keyed prefix lo hi es
keyed prefix lo hi (defined.child i k ∷ es) = false
keyed prefix lo hi (defined.message m ∷ es) = false

-- the tree under a node is sound: its pivots lack what its parent lifts, which is the prefix
abbrev pub SoundNode : List ℕ → ℕ → ℕ → List ℕ → List ℕ → List ℕ → Type 0
SoundNode s level num p lo hi = sound_tree (tree_at level s num) (p ++ lo) (p ++ hi) ≡ true

-- The notes tell which paths pass the trail: those under the prefix whose keys are from lo up to hi.
abbrev pub Tells : Position → List ℕ → List ℕ → Type 0
Tells p lo hi = IsSome p.notes.count → (k : List ℕ) → owns lo hi k ≡ true
    → passing p.trail (p.prefix ++ k) ≡ short (p.prefix ++ k) && silent p.notes k

-- above the root: nothing is lifted, and there is nothing to tell
pub record AtRoot (p : Position) : Type 0 where
  pub prefix : p.prefix ≡ []
  pub trail : p.trail.depth ≡ 0
  pub notes : Empty p.notes

-- the same trail, and notes of it
pub record TrailNoted (p : Position) (lo hi : List ℕ) (r : Position) : Type 0 where
  pub prefix : r.prefix ≡ p.prefix
  pub trail : r.trail ≡ p.trail
  pub tells : Tells r lo hi

-- Where a walk stands at a node with the pivots lo and hi, which lack what its parent lifts and share k bytes: the prefix is longer by these,
-- the trail is the one above, and the notes tell of the keys past what is lifted.
pub record Standing (above : Position) (lo hi : List ℕ) (k : ℕ) (here : Position) : Type 0 where
  pub lifts : k ≡ length (shared lo hi)
  pub low : k ≤ length lo
  pub high : k ≤ length hi
  pub prefix : here.prefix ≡ above.prefix ++ shared lo hi
  pub trail : here.trail ≡ above.trail
  pub tells : Tells here (drop k lo) (drop k hi)

-- the same where the node's own messages have joined
pub record Entered (es : List defined.Entry) (lo hi : List ℕ) (here below : Position) : Type 0 where
  pub prefix : below.prefix ≡ here.prefix
  pub trail : Deeper es (length here.prefix) here.trail below.trail
  pub tells : Tells here lo hi → Tells below lo hi

-- notes that tell of a key
pub record KeyTold (p : Position) (key : List ℕ) : Type 0 where
  pub lo : List ℕ
  pub hi : List ℕ
  pub owned : owns lo hi key ≡ true
  pub short_path : short (p.prefix ++ key) ≡ true
  pub tells : Tells p lo hi

-- the entries of a leaf, and notes that tell of their keys
pub record LeafTold (p : Position) (es : List defined.Entry) : Type 0 where
  pub lo : List ℕ
  pub hi : List ℕ
  pub keys : keyed p.prefix lo hi es ≡ true
  pub tells : Tells p lo hi

-- the children are sound, and notes tell of all that their node owns
pub record SoundBranches (s : List ℕ) (level : ℕ) (ks : List Branch) (hi : List ℕ) (p : Position) : Type 0 where
  pub low : List ℕ
  pub sound : sound_forest (forest_of (λ j. tree_at level s j) ks) p.prefix (p.prefix ++ low) (p.prefix ++ hi) ≡ true
  pub tells : Tells p low hi
