-- The lookup from the root of a sound image.
use Rattle.std.specs.Prelude.{ℕ, ◌+◌, ◌*◌, ◌<◌, ◌≤◌, ◌≡◌, refl, List, [], true, length, ltb}
use Rattle.image.specs.Prelude.{lt-ltb, sym, ap, ap₂, ◌∙◌, arith}
use Rattle.image.specs.Bytes.{u16, shared}
use Rattle.image.specs.Image.{Tree, node_bytes, nodes_of, header, header_of, tree_at, tree_of}
use Rattle.image.specs.Meaning.{lookup}
use Rattle.image.specs.Sound.{sound, sound_tree, in_range, numbers, value_in, lowest, highest}
use Rattle.laws.specs.Reading.Relative.{lifts, from_here, relative, usable, sound-usable}
use Rattle.node.specs.Cut.{cut-u16}
use Rattle.lookup.specs.Look.{below_length, node-is}
use Rattle.laws.specs.ButLive.{sound-parts}

-- the parts of a sound image that a reader starts from
pub record Starts (s : List ℕ) : Type 0 where
  pub root : ltb (header_of s).root (nodes_of (length s)) ≡ true
  pub tree : sound_tree (tree_of s) lowest highest ≡ true
  pub range : in_range (nodes_of (length s)) (numbers (tree_of s)) ≡ true

pub starts : (s : List ℕ) → sound s ≡ true → Starts s
starts s e =
    let w = sound-parts s e in
    record { root = lt-ltb (header_of s).root (nodes_of (length s)) w.root_high; tree = w.tree; range = w.range }

pub long-enough : (s : List ℕ) → sound s ≡ true → 1024 ≤ length s
long-enough s e = let h = below_length s (header_of s).root (starts s e).root in omega arith

pub first-u16 : (s : List ℕ) (k : ℕ) → 1024 ≤ length s → k + 1 < 1024 → u16 (node_bytes s 0) k ≡ u16 s k
first-u16 s k l h =
    let z : u16 s (0 * 1024 + k) ≡ u16 s k = ap (λ j. u16 s j) (omega arith) in
    ap (λ b. u16 b k) (node-is s 0 (omega arith)) ∙ cut-u16 s (0 * 1024) (0 * 1024 + 1024) k (omega arith) ∙ z

pub root_is : (s : List ℕ) (root levels : ℕ) → sound s ≡ true → root ≡ u16 s 6 → levels ≡ u16 s 8 → tree_at levels s root ≡ tree_of s
unfolding tree_of header_of header
root_is s root levels e a b =
    let l = long-enough s e in
    let p : root ≡ u16 (node_bytes s 0) 6 = a ∙ sym (first-u16 s 6 l (omega arith)) in
    let q : levels ≡ u16 (node_bytes s 0) 8 = b ∙ sym (first-u16 s 8 l (omega arith)) in
    ap₂ (λ x y. tree_at x s y) q p

pub root-usable : (s : List ℕ) (root levels : ℕ) → sound s ≡ true → root ≡ u16 s 6 → levels ≡ u16 s 8 → usable (nodes_of (length s)) (tree_at levels s root) ≡ true
root-usable s root levels e a b =
    ap (λ t. usable (nodes_of (length s)) t) (root_is s root levels e a b)
    ∙ sound-usable (tree_of s) (nodes_of (length s)) lowest highest (starts s e).tree (starts s e).range

nothing-lifted : (t : Tree) (hi p : List ℕ) → lookup t [] hi p ≡ from_here t hi p
unfolding lifts shared
nothing-lifted t hi p = relative t [] hi p refl

pub root-answers : (s : List ℕ) (root levels : ℕ) (p : List ℕ) → sound s ≡ true → root ≡ u16 s 6 → levels ≡ u16 s 8 → from_here (tree_at levels s root) highest p ≡ value_in s p
unfolding value_in
root-answers s root levels p e a b = ap (λ t. from_here t highest p) (root_is s root levels e a b) ∙ sym (nothing-lifted (tree_of s) highest p)
