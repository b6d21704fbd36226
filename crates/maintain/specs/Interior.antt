-- Question 6 by the bytes: a number is that of a reachable interior node exactly where it is marked and its node's kind is 2.
-- Relies on laws/Upkeep's Bridge (a reachable node is found by its number) and on the layout that `tree_at` asks for.
use Rattle.std.specs.Prelude.{ℕ, zero, suc, ◌+◌, ◌*◌, ◌-◌, ◌/◌, ◌<◌, ◌≤◌, ◌≡◌, refl, List, [], ◌∷◌, ◌++◌, Bool, true, false, ◌&&◌, not, cond, length, get_or, leb, eqb}
use Rattle.image.specs.Prelude.{sym, ap, ◌∙◌, false≢true, Option, none, some, arith, eqb-true}
use Rattle.image.specs.Bytes.{u16, shared}
use Rattle.image.specs.Entry.{Entry}
use Rattle.image.specs.Table.{Row}
use Rattle.image.specs.Image.{Tree, end, Branch, Inside, node_bytes, nodes_of, whole_nodes, laid_out, node_entries, pairs_of, inside_of, forest_of, leaf_of, interior_of, or_none, tree_at, header_of, tree_of}
use Rattle.image.specs.Meaning.{high_of}
use Rattle.image.specs.Sound.{sound, sound_tree, sound_forest, first_pivot, numbers, is_in, lowest, highest}
use Rattle.image.specs.Upkeep.{Reachable, reachable, reachable_in, reachable_nodes, reachable_at, every}
use Rattle.image.specs.Contract.{has_children, is_interior}
use Rattle.octets.specs.Order.{and_left, and_right, not-true, refuted}
use Rattle.laws.specs.Rising.{both}
use Rattle.laws.specs.LookupTable.{parts, inner}
use Rattle.node.specs.Cut.{cut-u16}
use Rattle.node.specs.Whole.{whole_parts}
use Rattle.lookup.specs.Look.{node-is, read_of}
use Rattle.lookup.specs.Root.{starts}
use Rattle.laws.specs.Upkeep.Kept.{numbers_of, numbers-places}
use Rattle.laws.specs.Upkeep.Healed.{place-number, place-test}
use Rattle.laws.specs.Upkeep.Bridge.{found-in, not_found}
use Rattle.laws.specs.Upkeep.Sublists.{range-of}
use Rattle.laws.specs.LiveCount.{every-both}
use Rattle.tree_check.specs.Whole.{Marks}

-- THE KIND OF A REACHABLE NODE
-- the node's kind tells whether it has children
unfoldable kind_tells : List ℕ → Reachable → Bool
kind_tells s x = cond (eqb (u16 (node_bytes s x.number) 2) 2) (has_children x.children) (not (has_children x.children))

kind_is : (kind level : ℕ) (node : List ℕ) → laid_out kind level node ≡ true → u16 node 2 ≡ kind
unfolding laid_out
kind_is kind level node e = eqb-true (u16 node 2) kind (and_right (leb (u16 node 0) 1016) (eqb (u16 node 2) kind) (and_left _ _ (and_left _ _ (and_left _ _ e))))

childless : (s : List ℕ) (x : Reachable) → u16 (node_bytes s x.number) 2 ≡ 1 → has_children x.children ≡ false → kind_tells s x ≡ true
unfolding kind_tells
childless s x k h = rw (k, h) refl

with-children : (s : List ℕ) (x : Reachable) → u16 (node_bytes s x.number) 2 ≡ 2 → has_children x.children ≡ true → kind_tells s x ≡ true
unfolding kind_tells
with-children s x k h = rw (k, h) refl

some-branch : (under : ℕ → Tree) (ks : List Branch) (lifted lo : List ℕ) → first_pivot lifted lo (forest_of under ks) ≡ true → has_children (forest_of under ks) ≡ true
unfolding forest_of first_pivot has_children
some-branch under [] lifted lo e = absurd (false≢true e)
some-branch under (k ∷ ks) lifted lo e = refl

module _ (s : List ℕ) where
  leaf-tells : (i m : ℕ) (lo hi : List ℕ) (o : Option (List Entry)) → node_entries 0x0001 1 (node_bytes s i) ≡ o
      → every (kind_tells s) (reachable (leaf_of i (or_none pairs_of o)) m lo hi) ≡ true
  unfolding or_none leaf_of reachable every has_children
  leaf-tells i m lo hi none e = refl
  leaf-tells i m lo hi (some es) e = go (pairs_of es)
    where
      tells : kind_tells s (record { number = i; level = m; low = lo; high = hi; messages = []; children = end }) ≡ true
      tells =
          childless s (record { number = i; level = m; low = lo; high = hi; messages = []; children = end })
          (kind_is 1 1 (node_bytes s i) (read_of 1 1 (node_bytes s i) es e).0) refl

      go : (p : Option (List Row)) → every (kind_tells s) (reachable (leaf_of i p) m lo hi) ≡ true
      go none = refl
      go (some rs) = both tells refl

  forest-tells : (under : ℕ → Tree) (m : ℕ) → ((j : ℕ) (lo hi : List ℕ) → sound_tree (under j) lo hi ≡ true → every (kind_tells s) (reachable (under j) m lo hi) ≡ true)
      → (ks : List Branch) (lifted lo hi : List ℕ) → sound_forest (forest_of under ks) lifted lo hi ≡ true
      → every (kind_tells s) (reachable_in (forest_of under ks) m lifted hi) ≡ true
  unfolding forest_of reachable_in every
  forest-tells under m law [] lifted lo hi e = refl
  forest-tells under m law (k ∷ ks) lifted lo hi e =
      let p = parts k.pivot (under k.number) (forest_of under ks) lifted lo hi e in
      every-both (kind_tells s) (reachable (under k.number) m (lifted ++ k.pivot) (high_of lifted hi (forest_of under ks))) (reachable_in (forest_of under ks) m lifted hi)
      (law k.number (lifted ++ k.pivot) (high_of lifted hi (forest_of under ks)) p.first) (forest-tells under m law ks lifted lo hi p.later)

  inner-tells : (under : ℕ → Tree) (l i m : ℕ) (lo hi : List ℕ)
      → ((j : ℕ) (clo chi : List ℕ) → sound_tree (under j) clo chi ≡ true → every (kind_tells s) (reachable (under j) (m - 1) clo chi) ≡ true)
      → (o : Option (List Entry)) → node_entries 0x0002 l (node_bytes s i) ≡ o → sound_tree (interior_of under i (or_none inside_of o)) lo hi ≡ true
      → every (kind_tells s) (reachable (interior_of under i (or_none inside_of o)) m lo hi) ≡ true
  unfolding or_none interior_of reachable every sound_tree
  inner-tells under l i m lo hi law none e h = refl
  inner-tells under l i m lo hi law (some es) e h = go (inside_of es) h
    where
      go : (p : Option Inside) → sound_tree (interior_of under i p) lo hi ≡ true → every (kind_tells s) (reachable (interior_of under i p) m lo hi) ≡ true
      go none h = refl
      go (some x) h =
          let k : u16 (node_bytes s i) 2 ≡ 2 = kind_is 2 l (node_bytes s i) (read_of 2 l (node_bytes s i) es e).0 in
          let f : has_children (forest_of under x.branches) ≡ true = some-branch under x.branches (shared lo hi) lo (and_left _ _ (and_left _ _ h)) in
          both (with-children s (record { number = i; level = m; low = lo; high = hi; messages = x.messages; children = forest_of under x.branches }) k f)
          (forest-tells under (m - 1) law x.branches (shared lo hi) lo hi (inner i (forest_of under x.branches) x.messages lo hi h).branches)

  tree-tells : (l i m : ℕ) (lo hi : List ℕ) → sound_tree (tree_at l s i) lo hi ≡ true → every (kind_tells s) (reachable (tree_at l s i) m lo hi) ≡ true
  unfolding tree_at sound_tree
  tree-tells zero i m lo hi e = absurd (false≢true e)
  tree-tells (suc zero) i m lo hi e = leaf-tells i m lo hi (node_entries 0x0001 1 (node_bytes s i)) refl
  tree-tells (suc (suc l)) i m lo hi e =
      inner-tells (λ j. tree_at (suc l) s j) (suc (suc l)) i m lo hi (λ j clo chi h. tree-tells (suc l) j (m - 1) clo chi h)
      (node_entries 0x0002 (suc (suc l)) (node_bytes s i)) refl e

-- QUESTION 6
told : (s : List ℕ) (i : ℕ) (x : Reachable) → i ≡ x.number → kind_tells s x ≡ true → is_interior (some x) ≡ eqb (u16 (node_bytes s i) 2) 2
unfolding is_interior kind_tells
told s i x n e = go (eqb (u16 (node_bytes s x.number) 2) 2) refl e ∙ ap (λ j. eqb (u16 (node_bytes s j) 2) 2) (sym n)
  where
    go : (b : Bool) → eqb (u16 (node_bytes s x.number) 2) 2 ≡ b → cond (eqb (u16 (node_bytes s x.number) 2) 2) (has_children x.children) (not (has_children x.children)) ≡ true
        → has_children x.children ≡ eqb (u16 (node_bytes s x.number) 2) 2
    go true f h = let g : has_children x.children ≡ true = rw f at h in g ∙ sym f
    go false f h = let g : not (has_children x.children) ≡ true = rw f at h in not-true (has_children x.children) g ∙ sym f

pub interior-is : (s : List ℕ) (i : ℕ) → sound s ≡ true → is_interior (reachable_at i (reachable_nodes s)) ≡ is_in i (numbers (tree_of s)) && eqb (u16 (node_bytes s i) 2) 2
interior-is s i ok = go (reachable_at i (reachable_nodes s)) refl
  where
    good : sound_tree (tree_of s) lowest highest ≡ true
    good = (starts s ok).tree

    same_numbers : numbers_of (reachable_nodes s) ≡ numbers (tree_of s)
    same_numbers = unfold reachable_nodes in numbers-places (tree_of s) (header_of s).levels lowest highest good

    all_tell : every (kind_tells s) (reachable_nodes s) ≡ true
    all_tell = unfold reachable_nodes tree_of in tree-tells s (header_of s).levels (header_of s).root (header_of s).levels lowest highest good

    go : (o : Option Reachable) → reachable_at i (reachable_nodes s) ≡ o → is_interior (reachable_at i (reachable_nodes s)) ≡ is_in i (numbers (tree_of s)) && eqb (u16 (node_bytes s i) 2) 2
    go none e =
        let a : is_in i (numbers (tree_of s)) ≡ false = ap (λ l. is_in i l) (sym same_numbers) ∙ not_found i (reachable_nodes s) e in
        rw (e, a) (unfold is_interior in refl)
    go (some x) e =
        let a : is_in i (numbers (tree_of s)) ≡ true = ap (λ l. is_in i l) (sym same_numbers) ∙ found-in i (reachable_nodes s) x e in
        ap is_interior e ∙ told s i x (place-number i (reachable_nodes s) x e) (place-test (kind_tells s) i (reachable_nodes s) x all_tell e)
        ∙ ap (λ b. b && eqb (u16 (node_bytes s i) 2) 2) (sym a)

-- THE WAYS OUT OF THE CODE
module _ (s seen : List ℕ) (i : ℕ) (whole : whole_nodes (length s) ≡ true) (ok : sound s ≡ true) (r : Marks s seen) where
  unreached : is_in i (numbers (tree_of s)) ≡ false → false ≡ is_interior (reachable_at i (reachable_nodes s))
  unreached e = sym (interior-is s i ok ∙ rw e refl)

  pub past_end : length s / 1024 ≤ i → false ≡ is_interior (reachable_at i (reachable_nodes s))
  past_end h =
      let far : nodes_of (length s) ≤ i = unfold nodes_of in h in
      unreached (refuted (λ e. omega (arith, far, (range-of (nodes_of (length s)) i (numbers (tree_of s)) (starts s ok).range e).1)))

  module _ (h : i < length s / 1024) where
    mark : get_or seen i 0 ≡ cond (is_in i (numbers (tree_of s))) 1 0
    unfolding nodes_of
    mark = r.marked i h

    pub unmarked : (get_or seen i 0 ≡ 1 → ⊥) → false ≡ is_interior (reachable_at i (reachable_nodes s))
    unmarked d = unreached (refuted (λ e. d (mark ∙ rw e refl)))

    pub inside : i * 1024 + 1024 ≤ length s
    unfolding nodes_of
    inside = let f : 1024 * (length s / 1024) ≡ length s = (whole_parts (length s) whole).filled in omega arith

    pub marked : get_or seen i 0 ≡ 1 → (k : ℕ) → k ≡ u16 s (i * 1024 + 2) → eqb k 2 ≡ is_interior (reachable_at i (reachable_nodes s))
    marked m k e =
        let kind : u16 (node_bytes s i) 2 ≡ k = ap (λ b. u16 b 2) (node-is s i inside) ∙ cut-u16 s (i * 1024) (i * 1024 + 1024) 2 (omega arith) ∙ sym e in
        go (is_in i (numbers (tree_of s))) refl kind
      where
        go : (b : Bool) → is_in i (numbers (tree_of s)) ≡ b → u16 (node_bytes s i) 2 ≡ k → eqb k 2 ≡ is_interior (reachable_at i (reachable_nodes s))
        go true f kind = sym (interior-is s i ok ∙ rw (f, kind) refl)
        go false f kind = let z : ◌≡◌ {A = ℕ} 1 0 = sym m ∙ mark ∙ rw f refl in absurd (omega arith)
