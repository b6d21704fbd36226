-- Step lemmas of the search for a node's high pivot: a leaf, the node itself, a node above it, and children one after another.
-- Relies on Laws/High and on what a usable node is (lookup: Look).
use Rattle.std.specs.Prelude.{ℕ, zero, suc, ◌+◌, ◌-◌, ◌<◌, ◌≤◌, ◌≡◌, refl, List, [], ◌∷◌, Bool, true, false, cond, length, take, drop, eqb}
use Rattle.std.specs.Prelude as found
use Rattle.std.specs.Borrow.{Bor}
use Rattle.image.specs.Prelude.{sym, ap, ap₂, ◌∙◌, Option, none, some, arith, eq-eqb, ne_eqb}
use Rattle.image.specs.Bytes.{u16, shared}
use Rattle.image.specs.Entry as defined
use Rattle.image.specs.Table.{Row}
use Rattle.image.specs.Image.{Tree, interior, Forest, Branch, nodes_of, node_bytes, node_entries, pairs_of, or_none, leaf_of, forest_of, tree_at, tree_of}
use Rattle.image.specs.Sound.{sound, highest}
use Rattle.laws.specs.Reading.Relative.{lifts, usable, usable_in, branch_high, high-at, first-usable, later-usable}
use Rattle.node.specs.Lent.{value_is}
use Rattle.node.specs.Search.Own.{branch, branches_among}
use Rattle.lookup.specs.Look.{listing, interior-at, inside-splits, part-rest, branches-usable}
use Rattle.lookup.specs.Root.{root_is}
use Rattle.push.specs.Laws.High.{or_else, high_here, high_in}

-- A LEAF
no-high : (n i : ℕ) (o : Option (List Row)) (lo hi : List ℕ) → high_here n (leaf_of i o) lo hi ≡ none
unfolding high_here leaf_of
no-high n i none lo hi = refl
no-high n i (some rs) lo hi = refl

pub high-leaf : (n level : ℕ) (s : List ℕ) (i : ℕ) (lo hi : List ℕ) → level ≤ 1 → high_here n (tree_at level s i) lo hi ≡ none
unfolding tree_at high_here
high-leaf n zero s i lo hi l = refl
high-leaf n (suc zero) s i lo hi l = no-high n i (or_none pairs_of (node_entries 0x0001 1 (node_bytes s i))) lo hi
high-leaf n (suc (suc level)) s i lo hi l = absurd (omega arith)

-- AN INTERIOR NODE
interior-high : (n i : ℕ) (f : Forest) (ms : List defined.Message) (lo hi : List ℕ)
    → high_here n (interior i f ms) lo hi ≡ cond (eqb n i) (some (drop (lifts lo hi) hi)) (high_in n f (drop (lifts lo hi) hi))
unfolding high_here
interior-high n i f ms lo hi = refl

module _ (n level : ℕ) (s : List ℕ) (i : ℕ) (u : usable (nodes_of (length s)) (tree_at level s i) ≡ true) (two : 2 ≤ level) (lo hi : List ℕ) (k : ℕ) (ek : k ≡ length (shared lo hi)) where
  rest-is : drop (lifts lo hi) hi ≡ drop k hi
  unfolding lifts
  rest-is = ap (λ m. drop m hi) (sym ek)

  by-node : (b : Bool) → eqb n i ≡ b → high_here n (tree_at level s i) lo hi ≡ cond b (some (drop k hi)) (high_in n (forest_of (λ j. tree_at (level - 1) s j) (branches_among (listing s i))) (drop k hi))
  by-node b e =
      let m = interior-at s i level two u in
      let p = inside-splits m.es m.x m.splits in
      let ks : branches_among (listing s i) ≡ m.x.branches = ap (λ es. branches_among es) m.node.lists ∙ p.branches in
      ap (λ t. high_here n t lo hi) m.tree
      ∙ interior-high n i (forest_of (λ j. tree_at (level - 1) s j) m.x.branches) m.x.messages lo hi
      ∙ ap₂ (λ c h. cond c (some h) (high_in n (forest_of (λ j. tree_at (level - 1) s j) m.x.branches) h)) e rest-is
      ∙ ap (λ l. cond b (some (drop k hi)) (high_in n (forest_of (λ j. tree_at (level - 1) s j) l) (drop k hi))) (sym ks)

  pub node-found : i ≡ n → (h : List ℕ) → h ≡ take (length hi - k) (drop k hi) → some h ≡ high_here n (tree_at level s i) lo hi
  node-found e h q = ap some (q ∙ part-rest k hi) ∙ sym (by-node true (eq-eqb n i (sym e)))

  -- the children, with the pivot that is theirs
  module _ (es : List defined.Entry) (q : es ≡ listing s i) (ks : List Branch) (p : ks ≡ branches_among es) where
    children-are : ks ≡ branches_among (listing s i)
    children-are = p ∙ ap branches_among q

    pub children-usable : usable_in (nodes_of (length s)) (forest_of (λ j. tree_at (level - 1) s j) ks) ≡ true
    children-usable = ap (λ l. usable_in (nodes_of (length s)) (forest_of (λ j. tree_at (level - 1) s j) l)) children-are ∙ branches-usable s i level u two

    pub node-above : (i ≡ n → ⊥) → (h : List ℕ) → h ≡ take (length hi - k) (drop k hi)
        → high_in n (forest_of (λ j. tree_at (level - 1) s j) ks) h ≡ high_here n (tree_at level s i) lo hi
    node-above e h g =
        ap₂ (λ l x. high_in n (forest_of (λ j. tree_at (level - 1) s j) l) x) children-are (g ∙ part-rest k hi)
        ∙ sym (by-node false (ne_eqb n i (λ z. e (sym z))))

-- CHILDREN, ONE AT A TIME: ks are left, and hi is the high pivot of the last
module _ (n : ℕ) (under : ℕ → Tree) (hi : List ℕ) (ks : List Branch) (answer : Option (List ℕ)) (inv : high_in n (forest_of under ks) hi ≡ answer) where
  pub no-more : ks ≡ [] → none ≡ answer
  unfolding high_in forest_of
  no-more e = sym (ap (λ l. high_in n (forest_of under l) hi) e) ∙ inv

  module _ (i : ℕ) (lo h : List ℕ) (us : List Branch) (e : ks ≡ branch i lo ∷ us) (g : h ≡ branch_high hi us) (r : found.Option (Bor (List ℕ)))
      (q : value_is r ≡ high_here n (under i) lo h) where
    both-are : or_else (value_is r) (high_in n (forest_of under us) hi) ≡ answer
    unfolding high_in forest_of
    both-are =
        ap (λ x. or_else x (high_in n (forest_of under us) hi)) (q ∙ ap (high_here n (under i) lo) (g ∙ sym (high-at under hi us)))
        ∙ sym (ap (λ l. high_in n (forest_of under l) hi) e) ∙ inv

    pub is-here : (v : Bor (List ℕ)) → r ≡ found.Some v → some v.now ≡ answer
    unfolding or_else
    is-here v p = sym (ap (λ x. or_else (value_is x) (high_in n (forest_of under us) hi)) p) ∙ both-are

    pub not-here : r ≡ found.None → high_in n (forest_of under us) hi ≡ answer
    unfolding or_else
    not-here p = sym (ap (λ x. or_else (value_is x) (high_in n (forest_of under us) hi)) p) ∙ both-are

module _ (n : ℕ) (under : ℕ → Tree) (ks us : List Branch) (i : ℕ) (lo : List ℕ) (e : ks ≡ branch i lo ∷ us) (u : usable_in n (forest_of under ks) ≡ true) where
  all-usable : usable_in n (forest_of under (branch i lo ∷ us)) ≡ true
  all-usable = ap (λ l. usable_in n (forest_of under l)) (sym e) ∙ u

  pub child-usable : usable n (under i) ≡ true
  child-usable = first-usable n under (branch i lo) us all-usable

  pub rest-usable : usable_in n (forest_of under us) ≡ true
  rest-usable = later-usable n under (branch i lo) us us refl all-usable

-- THE ROOT
pub root-seen : (n : ℕ) (s : List ℕ) (root levels : ℕ) (r : Option (List ℕ)) → sound s ≡ true → root ≡ u16 s 6 → levels ≡ u16 s 8
    → r ≡ high_here n (tree_at levels s root) [] highest → r ≡ high_here n (tree_of s) [] highest
root-seen n s root levels r e a b h = h ∙ ap (λ t. high_here n t [] highest) (root_is s root levels e a b)
