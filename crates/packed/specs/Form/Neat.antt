-- Neat: all leaves at the same depth, no message, every node's entries at most 1,016 bytes, every stored pivot at most 65.
use Rattle.std.specs.Prelude.{ℕ, zero, suc, ◌+◌, ◌-◌, ◌≤◌, ◌≡◌, refl, List, [], ◌∷◌, ◌++◌, true, length, drop, get_or}
use Rattle.image.specs.Prelude.{arith, length-drop}
use Rattle.image.specs.Bytes.{shared}
use Rattle.image.specs.Entry.{Message}
use Rattle.image.specs.Table.{Row}
use Rattle.image.specs.Image.{Tree, unread, leaf, interior, Forest, end, tree}
use Rattle.image.specs.Meaning.{high_of}
use Rattle.image.specs.Sound.{highest}
use Rattle.image.specs.Upkeep.{reachable, reachable_in, holds_no_message, every}
use Rattle.laws.specs.Rising.{both}
use Rattle.packed.specs.Form.Chunk.{All, all_left, all_right, all_map, Group, members, flat, groups, groups-flat, total, Fits, groups-fit}
use Rattle.packed.specs.Form.Packed.{Item, key_of, low_of, pair_weight, child_weight, first, short_rows, branches, leaf_from, node_from, leaf_level, node_level, leaves, raised, pair_limit}
use Rattle.packed.specs.Form.Leaves.{Good, value_length}
use Rattle.laws.specs.LiveCount.{every-both as every_append}
use Rattle.laws.specs.Follow.{formed-length}

-- the bytes of a node's children
unfoldable pub pivot_bytes : Forest → ℕ
pivot_bytes end = 0
pivot_bytes (tree s t f) = 6 + length s + pivot_bytes f

unfoldable mutual
  pub Neat : Tree → ℕ → Type 0
  Neat (unread i) l = ⊥
  Neat (leaf i rs) l = (l ≡ 1) × (total pair_weight rs ≤ 1016)
  Neat (interior i f ms) zero = ⊥
  Neat (interior i f ms) (suc l) = (1 ≤ l) × (ms ≡ []) × (pivot_bytes f ≤ 1016) × NeatIn f l

  pub NeatIn : Forest → ℕ → Type 0
  NeatIn end l = Unit {0}
  NeatIn (tree s t f) l = (length s ≤ 65) × Neat t l × NeatIn f l

-- a level of neat nodes, with short low pivots
abbrev pub Trim : ℕ → Item → Type 0
Trim l x = Neat x.node l × (length x.low ≤ 64)

-- stored suffixes are no longer than what they stand for
pub short-weight : (k : ℕ) (rs : List Row) → total pair_weight (short_rows k rs) ≤ total pair_weight rs
unfolding total short_rows
short-weight k [] = omega arith
short-weight k (r ∷ rs) = let h = short-weight k rs in let d = length-drop k r.key in omega arith

branches-weight : (k : ℕ) (xs : List Item) → pivot_bytes (branches k xs) ≤ total child_weight xs
unfolding total branches pivot_bytes
branches-weight k [] = omega arith
branches-weight k (x ∷ xs) = let h = branches-weight k xs in let d = length-drop k x.low in omega arith

branches-neat : (k l : ℕ) (xs : List Item) → All (Trim l) xs → NeatIn (branches k xs) l
unfolding NeatIn branches
branches-neat k l [] h = tt
branches-neat k l (x ∷ xs) h =
    ((let d = length-drop k x.low in let b = h.0.1 in omega arith), h.0.0, branches-neat k l xs h.1)

leaf_level-trim : (nums lo : List ℕ) (gs : List (Group Row)) → length lo ≤ 64 → All (λ r. length r.key ≤ 64) (flat gs) → All (Fits pair_weight) gs
    → All (Trim 1) (leaf_level nums lo gs)
unfolding leaf_level leaf_from
leaf_level-trim nums lo [] b s f = tt
leaf_level-trim nums lo (g ∷ gs) b s f =
    ((neat-leaf, b), leaf_level-trim (drop 1 nums) (first key_of highest (flat gs)) gs (next gs (rest s)) (rest s) f.1)
  where
    neat-leaf : Neat (leaf (get_or nums 0 0) (short_rows (length (shared lo (first key_of highest (flat gs)))) (members g))) 1
    neat-leaf = unfold Neat in
        (refl, (let w = short-weight (length (shared lo (first key_of highest (flat gs)))) (members g) in let q = f.0 in omega arith))

    rest : All (λ r. length r.key ≤ 64) (flat (g ∷ gs)) → All (λ r. length r.key ≤ 64) (flat gs)
    rest h = unfold flat in all_right (λ r. length r.key ≤ 64) (members g) (flat gs) h

    next : (hs : List (Group Row)) → All (λ r. length r.key ≤ 64) (flat hs) → length (first key_of highest (flat hs)) ≤ 64
    next [] h = unfold first flat in omega arith
    next (x ∷ hs) h = unfold first flat in h.0

node_level-trim : (nums : List ℕ) (l : ℕ) (gs : List (Group Item)) → 1 ≤ l → All (Trim l) (flat gs) → All (Fits child_weight) gs
    → All (Trim (suc l)) (node_level nums gs)
unfolding node_level node_from flat Neat
node_level-trim nums l [] o s f = tt
node_level-trim nums l (g ∷ gs) o s f =
    let k : ℕ = length (shared g.head.low (first low_of highest (flat gs))) in (
      (
        (
          o,
          refl,
          (let w = branches-weight k (members g) in let q = f.0 in omega arith),
          branches-neat k l (members g) (all_left (Trim l) (members g) (flat gs) s),
        ),
        s.0.1,
      ),
      node_level-trim (drop 1 nums) l gs o (all_right (Trim l) (members g) (flat gs) s) f.1,
    )

good-weight : (r : Row) → Good r → pair_weight r ≤ pair_limit
good-weight r g = let a = formed-length r.key g.0 in let b = value_length r.value g.1 in omega arith

pub pair-weights : (t : List Row) → All Good t → All (λ r. pair_weight r ≤ pair_limit) t
pair-weights t g = all_map Good (λ r. pair_weight r ≤ pair_limit) good-weight t g

pub child-weights : (l : ℕ) (xs : List Item) → All (Trim l) xs → All (λ x. child_weight x ≤ 70) xs
child-weights l xs h = all_map (Trim l) (λ x. child_weight x ≤ 70) (λ x t. let b = t.1 in omega arith) xs h

pub leaves-trim : (nums : List ℕ) (t : List Row) → All Good t → All (Trim 1) (leaves nums t)
unfolding leaves
leaves-trim nums [] g = ((unfold Neat total in (refl, omega arith), omega arith), tt)
leaves-trim nums (r ∷ t) g =
    leaf_level-trim nums [] (groups pair_weight (r ∷ t)) (omega arith)
    (rw (groups-flat pair_weight (r ∷ t)) (all_map Good (λ q. length q.key ≤ 64) (λ q x. formed-length q.key x.0) (r ∷ t) g))
    (groups-fit pair_weight (r ∷ t) (all_map (λ q. pair_weight q ≤ pair_limit) (λ q. pair_weight q ≤ 1016) (λ q x. omega arith) (r ∷ t) (pair-weights (r ∷ t) g)))

pub raised-trim : (nums : List ℕ) (l : ℕ) (xs : List Item) → 1 ≤ l → All (Trim l) xs → All (Trim (suc l)) (raised nums xs)
unfolding raised
raised-trim nums l xs o h =
    node_level-trim nums l (groups child_weight xs) o (rw (groups-flat child_weight xs) h)
    (groups-fit child_weight xs (all_map (λ q. child_weight q ≤ 70) (λ q. child_weight q ≤ 1016) (λ q x. omega arith) xs (child-weights l xs h)))

-- a neat tree is settled
no-message : (i l : ℕ) (lo hi : List ℕ) (ms : List Message) (f : Forest) → ms ≡ []
    → holds_no_message (record { number = i; level = l; low = lo; high = hi; messages = ms; children = f }) ≡ true
unfolding holds_no_message
no-message i l lo hi ms f e = rw e

mutual
  unfolding reachable reachable_in every Neat NeatIn

  pub neat-quiet : (t : Tree) (l m : ℕ) (lo hi : List ℕ) → Neat t l → every holds_no_message (reachable t m lo hi) ≡ true
  neat-quiet (unread i) l m lo hi h = absurd h
  neat-quiet (leaf i rs) l m lo hi h = both (no-message i m lo hi [] end refl) refl
  neat-quiet (interior i f ms) zero m lo hi h = absurd h
  neat-quiet (interior i f ms) (suc l) m lo hi h =
      both (no-message i m lo hi ms f h.1) (neat-quiet-in f l (m - 1) (shared lo hi) hi h.3)

  pub neat-quiet-in : (f : Forest) (l m : ℕ) (lifted hi : List ℕ) → NeatIn f l → every holds_no_message (reachable_in f m lifted hi) ≡ true
  neat-quiet-in end l m lifted hi h = refl
  neat-quiet-in (tree s t f) l m lifted hi h =
      every_append holds_no_message (reachable t m (lifted ++ s) (high_of lifted hi f)) (reachable_in f m lifted hi)
      (neat-quiet t l m (lifted ++ s) (high_of lifted hi f) h.1) (neat-quiet-in f l m lifted hi h.2)
