-- Lookup told from inside a node: pivots and path without the bytes that the node lifts. And the same on the bytes of an image.
use Rattle.std.specs.Prelude.{ℕ, ◌<◌, ◌≡◌, refl, List, [], ◌∷◌, ◌++◌, Bool, true, false, ◌&&◌, cond, length, drop, ltb, leb}
use Rattle.image.specs.Prelude.{ltb-true, sym, ap, ◌∙◌, append-nil, false≢true, Option, none}
use Rattle.image.specs.Bytes.{shared}
use Rattle.image.specs.Path.{owns}
use Rattle.image.specs.Table.{find}
use Rattle.image.specs.Image.{Tree, unread, leaf, interior, Forest, end, tree, Branch, forest_of}
use Rattle.image.specs.Meaning.{high_of, newest, decide, lookup, lookup_in}
use Rattle.image.specs.Sound.{numbers, numbers_in, in_range, sound_tree, sound_forest}
use Rattle.octets.specs.Beginnings.{shared-right}
use Rattle.octets.specs.Order.{begins-split, and_left, and_right, not_so}
use Rattle.laws.specs.Rising.{both}
use Rattle.laws.specs.LookupTable.{split, parts, inner}
use Rattle.laws.specs.Shift.{lookup-shift-in}
use Rattle.laws.specs.Page.{number_of}

-- how many bytes a child with these pivots lifts beyond its parent
unfoldable pub lifts : List ℕ → List ℕ → ℕ
lifts lo hi = length (shared lo hi)

-- Lookup of the rest of a path in a node: hi and rest are without what the node lifts.
unfoldable mutual
  pub from_here : Tree → List ℕ → List ℕ → Option (List ℕ)
  from_here (unread i) hi rest = none
  from_here (leaf i rs) hi rest = find rest rs
  from_here (interior i f ms) hi rest = decide (newest ms rest) (from_branches f hi rest)

  pub from_branches : Forest → List ℕ → List ℕ → Option (List ℕ)
  from_branches end hi rest = none
  from_branches (tree s t f) hi rest =
      cond (owns s (high_of [] hi f) rest)
      (from_here t (drop (lifts s (high_of [] hi f)) (high_of [] hi f)) (drop (lifts s (high_of [] hi f)) rest))
      (from_branches f hi rest)

choose : (b : Bool) (x y u v : Option (List ℕ)) → (b ≡ true → x ≡ y) → u ≡ v → cond b x u ≡ cond b y v
choose true x y u v h k = h refl
choose false x y u v h k = k

cut_in : (f : Forest) (x hi p : List ℕ) → x ++ drop (length x) hi ≡ hi → x ++ drop (length x) p ≡ p
    → lookup_in f x hi p ≡ lookup_in f [] (drop (length x) hi) (drop (length x) p)
cut_in f x hi p a b =
    let e : lookup_in f (x ++ []) (x ++ drop (length x) hi) (x ++ drop (length x) p) ≡ lookup_in f [] (drop (length x) hi) (drop (length x) p)
    = lookup-shift-in x f [] (drop (length x) hi) (drop (length x) p) in
    rw (append-nil x, a, b) at e

mutual
  unfolding lookup lookup_in from_here from_branches lifts

  -- for a path that begins with what the node lifts (every path that it owns does)
  pub relative : (t : Tree) (lo hi p : List ℕ) → shared lo hi ++ drop (length (shared lo hi)) p ≡ p
      → lookup t lo hi p ≡ from_here t (drop (lifts lo hi) hi) (drop (lifts lo hi) p)
  relative (unread i) lo hi p o = refl
  relative (leaf i rs) lo hi p o = refl
  relative (interior i f ms) lo hi p o =
      ap (λ d. decide (newest ms (drop (length (shared lo hi)) p)) d)
      (cut_in f (shared lo hi) hi p (begins-split (shared lo hi) hi (shared-right lo hi)) o
      ∙ relative-in f (drop (length (shared lo hi)) hi) (drop (length (shared lo hi)) p))

  pub relative-in : (f : Forest) (hi p : List ℕ) → lookup_in f [] hi p ≡ from_branches f hi p
  relative-in end hi p = refl
  relative-in (tree s t f) hi p =
      choose (owns s (high_of [] hi f) p) _ _ _ _
      (λ o. relative t s (high_of [] hi f) p (split s (high_of [] hi f) p o))
      (relative-in f hi p)

unfoldable pub branch_high : List ℕ → List Branch → List ℕ
branch_high hi [] = hi
branch_high hi (k ∷ ks) = k.pivot

-- the same under a prefix that both pivots have
pub high-joined : (under : ℕ → Tree) (prefix hi : List ℕ) (ks : List Branch) → high_of prefix (prefix ++ hi) (forest_of under ks) ≡ prefix ++ branch_high hi ks
unfolding high_of forest_of branch_high
high-joined under prefix hi [] = refl
high-joined under prefix hi (k ∷ ks) = refl

pub high-at : (under : ℕ → Tree) (hi : List ℕ) (ks : List Branch) → high_of [] hi (forest_of under ks) ≡ branch_high hi ks
high-at under hi ks = high-joined under [] hi ks

-- What a reader may rely on: no node of the tree is unread, and every number is below n.
unfoldable mutual
  pub usable : ℕ → Tree → Bool
  usable n (unread i) = false
  usable n (leaf i rs) = ltb i n
  usable n (interior i f ms) = ltb i n && usable_in n f

  pub usable_in : ℕ → Forest → Bool
  usable_in n end = true
  usable_in n (tree s t f) = usable n t && usable_in n f

first-left : (n i : ℕ) (l : List ℕ) → in_range n (i ∷ l) ≡ true → ltb i n ≡ true
unfolding in_range
first-left n i l e = and_right (leb 1 i) _ (and_left _ _ e)

pub rest-left : (n i : ℕ) (l : List ℕ) → in_range n (i ∷ l) ≡ true → in_range n l ≡ true
unfolding in_range
rest-left n i l e = and_right (leb 1 i && ltb i n) _ e

range-left : (n : ℕ) (a b : List ℕ) → in_range n (a ++ b) ≡ true → in_range n a ≡ true
unfolding in_range
range-left n [] b e = refl
range-left n (i ∷ a) b e = both (and_left (leb 1 i && ltb i n) (in_range n (a ++ b)) e) (range-left n a b (and_right (leb 1 i && ltb i n) _ e))

range-right : (n : ℕ) (a b : List ℕ) → in_range n (a ++ b) ≡ true → in_range n b ≡ true
unfolding in_range
range-right n [] b e = e
range-right n (i ∷ a) b e = range-right n a b (and_right (leb 1 i && ltb i n) _ e)

no-unread : (i : ℕ) (lo hi : List ℕ) → sound_tree (unread i) lo hi ≡ false
unfolding sound_tree
no-unread i lo hi = refl

-- a sound tree whose numbers are in range is usable
mutual
  unfolding numbers numbers_in usable usable_in

  pub sound-usable : (t : Tree) (n : ℕ) (lo hi : List ℕ) → sound_tree t lo hi ≡ true → in_range n (numbers t) ≡ true → usable n t ≡ true
  sound-usable (unread i) n lo hi e r = not_so e (no-unread i lo hi)
  sound-usable (leaf i rs) n lo hi e r = first-left n i [] r
  sound-usable (interior i f ms) n lo hi e r =
      both (first-left n i (numbers_in f) r) (sound-usable-in f n (shared lo hi) lo hi (inner i f ms lo hi e).branches (rest-left n i (numbers_in f) r))

  pub sound-usable-in : (f : Forest) (n : ℕ) (lifted lo hi : List ℕ) → sound_forest f lifted lo hi ≡ true → in_range n (numbers_in f) ≡ true → usable_in n f ≡ true
  sound-usable-in end n lifted lo hi e r = refl
  sound-usable-in (tree s t f) n lifted lo hi e r =
      both (sound-usable t n (lifted ++ s) (high_of lifted hi f) (parts s t f lifted lo hi e).first (range-left n (numbers t) (numbers_in f) r))
      (sound-usable-in f n lifted lo hi (parts s t f lifted lo hi e).later (range-right n (numbers t) (numbers_in f) r))

pub number-under : (n : ℕ) (t : Tree) → usable n t ≡ true → number_of t < n
unfolding usable number_of
number-under n (unread i) u = absurd (false≢true u)
number-under n (leaf i rs) u = ltb-true i n u
number-under n (interior i f ms) u = ltb-true i n (and_left _ _ u)

-- of children that can be read, the first and the later ones can
pub first-usable : (n : ℕ) (under : ℕ → Tree) (k : Branch) (ks : List Branch) → usable_in n (forest_of under (k ∷ ks)) ≡ true → usable n (under k.number) ≡ true
unfolding usable_in forest_of
first-usable n under k ks u = and_left _ _ u

pub later-usable : (n : ℕ) (under : ℕ → Tree) (k : Branch) (ks us : List Branch) → ks ≡ us → usable_in n (forest_of under (k ∷ ks)) ≡ true → usable_in n (forest_of under us) ≡ true
unfolding usable_in forest_of
later-usable n under k ks us e u = ap (λ l. usable_in n (forest_of under l)) (sym e) ∙ and_right (usable n (under k.number)) _ u
