-- A change of a tree that keeps its table, its soundness and its height, and leaves out nodes at most: carried from a list of children to
-- its node, from a node to the list that it stands in, and from one change to the next.
use Rattle.std.specs.Prelude.{ℕ, ◌-◌, ◌≡◌, refl, List, ◌++◌, true, leb}
use Rattle.image.specs.Prelude.{ap, ap₂, ◌∙◌}
use Rattle.image.specs.Bytes.{shared}
use Rattle.image.specs.Entry.{Message}
use Rattle.image.specs.Image.{Tree, interior, Forest, tree}
use Rattle.image.specs.Meaning.{high_of, apply_all, rows, rows_in}
use Rattle.image.specs.Sound.{sound_tree, sound_forest, first_pivot, numbers, numbers_in}
use Rattle.octets.specs.Order.{and_left, and_right}
use Rattle.laws.specs.Rising.{both}
use Rattle.laws.specs.LookupTable.{parts, inner}
use Rattle.laws.specs.Upkeep.Sublists.{Sub, keep, sub_refl, sub-append}
use Rattle.laws.specs.Page.{number_of}
use Rattle.laws.specs.Upkeep.Merge.{tall, tall_in, first_of, inner-sound}

-- t is before, u after
pub record Mends (t u : Tree) (lo hi : List ℕ) (level : ℕ) : Type 0 where
  pub number : number_of u ≡ number_of t
  pub table : rows u lo hi ≡ rows t lo hi
  pub sound : sound_tree u lo hi ≡ true
  pub height : tall u level ≡ true
  pub nodes : Sub (numbers u) (numbers t)

pub record MendsIn (f g : Forest) (lifted lo hi : List ℕ) (level : ℕ) : Type 0 where
  pub high : (l h : List ℕ) → high_of l h g ≡ high_of l h f
  pub first : (l k : List ℕ) → first_pivot l k g ≡ first_pivot l k f
  pub table : rows_in g lifted hi ≡ rows_in f lifted hi
  pub sound : sound_forest g lifted lo hi ≡ true
  pub height : tall_in g level ≡ true
  pub nodes : Sub (numbers_in g) (numbers_in f)

pub mends-refl : (t : Tree) (lo hi : List ℕ) (level : ℕ) → sound_tree t lo hi ≡ true → tall t level ≡ true → Mends t t lo hi level
mends-refl t lo hi level e h = record { number = refl; table = refl; sound = e; height = h; nodes = sub_refl (numbers t) }

pub mends-in-refl : (f : Forest) (lifted lo hi : List ℕ) (level : ℕ) → sound_forest f lifted lo hi ≡ true → tall_in f level ≡ true → MendsIn f f lifted lo hi level
mends-in-refl f lifted lo hi level e h =
    record { high = λ l k. refl; first = λ l k. refl; table = refl; sound = e; height = h; nodes = sub_refl (numbers_in f) }

module _ (s : List ℕ) (t u : Tree) (f g : Forest) (lifted lo hi : List ℕ) (level : ℕ) (e : sound_forest (tree s t f) lifted lo hi ≡ true)
    (m : Mends t u (lifted ++ s) (high_of lifted hi f) level) (n : MendsIn f g lifted lo hi level) where
  tree-first : (l k : List ℕ) → first_pivot l k (tree s u g) ≡ first_pivot l k (tree s t f)
  unfolding first_pivot
  tree-first l k = refl

  tree-high : (l h : List ℕ) → high_of l h (tree s u g) ≡ high_of l h (tree s t f)
  unfolding high_of
  tree-high l h = refl

  tree-table : rows_in (tree s u g) lifted hi ≡ rows_in (tree s t f) lifted hi
  unfolding rows_in
  tree-table = rw (n.high lifted hi) (ap₂ (λ a b. a ++ b) m.table n.table)

  tree-sound : sound_forest (tree s u g) lifted lo hi ≡ true
  unfolding sound_forest
  tree-sound = rw (n.high lifted hi) (both (both (both (parts s t f lifted lo hi e).owned (parts s t f lifted lo hi e).rises) m.sound) n.sound)

  tree-tall : tall_in (tree s u g) level ≡ true
  unfolding tall_in
  tree-tall = both m.height n.height

  tree-nodes : Sub (numbers_in (tree s u g)) (numbers_in (tree s t f))
  unfolding numbers_in
  tree-nodes = sub-append m.nodes n.nodes

  -- a child and the later children
  pub mends-tree : MendsIn (tree s t f) (tree s u g) lifted lo hi level
  mends-tree = record { high = tree-high; first = tree-first; table = tree-table; sound = tree-sound; height = tree-tall; nodes = tree-nodes }

-- the children of a node
module _ (i : ℕ) (f g : Forest) (ms : List Message) (lo hi : List ℕ) (level : ℕ) (e : sound_tree (interior i f ms) lo hi ≡ true)
    (h : tall (interior i f ms) level ≡ true) (n : MendsIn f g (shared lo hi) lo hi (level - 1)) where
  node-number : number_of (interior i g ms) ≡ number_of (interior i f ms)
  unfolding number_of
  node-number = refl

  node-table : rows (interior i g ms) lo hi ≡ rows (interior i f ms) lo hi
  unfolding rows
  node-table = ap (λ t. apply_all (shared lo hi) ms t) n.table

  node-tall : tall (interior i g ms) level ≡ true
  unfolding tall
  node-tall = both (and_left (leb 2 level) _ h) n.height

  node-nodes : Sub (numbers (interior i g ms)) (numbers (interior i f ms))
  unfolding numbers
  node-nodes = keep n.nodes

  pub mends-node : Mends (interior i f ms) (interior i g ms) lo hi level
  mends-node =
      record {
        number = node-number;
        table = node-table;
        sound = inner-sound i g ms lo hi (n.first (shared lo hi) lo ∙ first_of i f ms lo hi e) n.sound (inner i f ms lo hi e).wait;
        height = node-tall;
        nodes = node-nodes;
      }

-- the heights of a node's children, and of a list's
pub tall-branches : (i : ℕ) (f : Forest) (ms : List Message) (level : ℕ) → tall (interior i f ms) level ≡ true → tall_in f (level - 1) ≡ true
unfolding tall
tall-branches i f ms level h = and_right (leb 2 level) _ h

pub tall-first : (s : List ℕ) (t : Tree) (f : Forest) (level : ℕ) → tall_in (tree s t f) level ≡ true → tall t level ≡ true
unfolding tall_in
tall-first s t f level h = and_left (tall t level) _ h

pub tall-later : (s : List ℕ) (t : Tree) (f : Forest) (level : ℕ) → tall_in (tree s t f) level ≡ true → tall_in f level ≡ true
unfolding tall_in
tall-later s t f level h = and_right (tall t level) _ h
