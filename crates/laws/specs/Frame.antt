-- A tree depends on the bytes of its own nodes alone: where those stay, it stays.
use Rattle.std.specs.Prelude.{ℕ, zero, suc, ◌≡◌, refl, List, [], ◌∷◌, ◌++◌, Bool, true, false, ◌||◌, eqb}
use Rattle.image.specs.Prelude.{ap, ap₂, subst, false≢true, Option, none, some, eq-eqb, cases}
use Rattle.image.specs.Table.{Row}
use Rattle.image.specs.Image.{Tree, interior, tree, Branch, Inside, node_bytes, node_entries, pairs_of, inside_of, forest_of, leaf_of, interior_of, or_none, tree_at}
use Rattle.image.specs.Sound.{numbers, numbers_in, is_in}

-- two images have the same bytes at these nodes
unfoldable pub Keeps : List ℕ → List ℕ → List ℕ → Type 0
Keeps s s' is = (j : ℕ) → is_in j is ≡ true → node_bytes s' j ≡ node_bytes s j

pub or_left : (a b : Bool) → a ≡ true → a || b ≡ true
or_left a b e = rw e

pub or_right : (a b : Bool) → b ≡ true → a || b ≡ true
or_right true b e = refl
or_right false b e = e

pub in_left : (j : ℕ) (is js : List ℕ) → is_in j is ≡ true → is_in j (is ++ js) ≡ true
unfolding is_in
in_left j [] js e = absurd (false≢true e)
in_left j (i ∷ is) js e = cases (eqb j i) (λ f. rw f) (λ f. rw f (in_left j is js (subst (λ x. x || is_in j is ≡ true) f e)))

pub in_right : (j : ℕ) (is js : List ℕ) → is_in j js ≡ true → is_in j (is ++ js) ≡ true
unfolding is_in
in_right j [] js e = e
in_right j (i ∷ is) js e = or_right (eqb j i) (is_in j (is ++ js)) (in_right j is js e)

pub keeps-left : (s s' is js : List ℕ) → Keeps s s' (is ++ js) → Keeps s s' is
unfolding Keeps
keeps-left s s' is js k = λ j e. k j (in_left j is js e)

pub keeps-right : (s s' is js : List ℕ) → Keeps s s' (is ++ js) → Keeps s s' js
unfolding Keeps
keeps-right s s' is js k = λ j e. k j (in_right j is js e)

pub keeps-head : (s s' : List ℕ) (i : ℕ) (is : List ℕ) → Keeps s s' (i ∷ is) → node_bytes s' i ≡ node_bytes s i
unfolding Keeps is_in
keeps-head s s' i is k = k i (or_left (eqb i i) (is_in i is) (eq-eqb i i refl))

pub keeps-tail : (s s' : List ℕ) (i : ℕ) (is : List ℕ) → Keeps s s' (i ∷ is) → Keeps s s' is
unfolding Keeps is_in
keeps-tail s s' i is k = λ j e. k j (or_right (eqb j i) (is_in j is) e)

-- the children of a node
pub forest-stays : (s s' : List ℕ) (u u' : ℕ → Tree) → ((i : ℕ) → Keeps s s' (numbers (u i)) → u' i ≡ u i)
    → (ks : List Branch) → Keeps s s' (numbers_in (forest_of u ks)) → forest_of u' ks ≡ forest_of u ks
unfolding forest_of numbers_in
forest-stays s s' u u' under [] k = refl
forest-stays s s' u u' under (x ∷ ks) k =
    ap₂ (λ t f. tree x.pivot t f)
    (under x.number (keeps-left s s' (numbers (u x.number)) (numbers_in (forest_of u ks)) k))
    (forest-stays s s' u u' under ks (keeps-right s s' (numbers (u x.number)) (numbers_in (forest_of u ks)) k))

own-leaf : (s s' : List ℕ) (i : ℕ) (o : Option (List Row)) → Keeps s s' (numbers (leaf_of i o)) → node_bytes s' i ≡ node_bytes s i
unfolding leaf_of numbers
own-leaf s s' i none k = keeps-head s s' i [] k
own-leaf s s' i (some rs) k = keeps-head s s' i [] k

own-interior : (s s' : List ℕ) (u : ℕ → Tree) (i : ℕ) (o : Option Inside) → Keeps s s' (numbers (interior_of u i o)) → node_bytes s' i ≡ node_bytes s i
unfolding interior_of numbers
own-interior s s' u i none k = keeps-head s s' i [] k
own-interior s s' u i (some x) k = keeps-head s s' i (numbers_in (forest_of u x.branches)) k

interior-stays : (s s' : List ℕ) (u u' : ℕ → Tree) → ((i : ℕ) → Keeps s s' (numbers (u i)) → u' i ≡ u i)
    → (i : ℕ) (o : Option Inside) → Keeps s s' (numbers (interior_of u i o)) → interior_of u' i o ≡ interior_of u i o
unfolding interior_of numbers
interior-stays s s' u u' under i none k = refl
interior-stays s s' u u' under i (some x) k =
    ap (λ f. interior i f x.messages) (forest-stays s s' u u' under x.branches (keeps-tail s s' i (numbers_in (forest_of u x.branches)) k))

-- The tree under node i stays where the bytes of its nodes stay.
pub tree-stays : (l : ℕ) (s s' : List ℕ) (i : ℕ) → Keeps s s' (numbers (tree_at l s i)) → tree_at l s' i ≡ tree_at l s i
unfolding tree_at
tree-stays zero s s' i k = refl
tree-stays (suc zero) s s' i k = rw (own-leaf s s' i (or_none pairs_of (node_entries 0x0001 1 (node_bytes s i))) k)
tree-stays (suc (suc l)) s s' i k =
    rw (own-interior s s' (λ j. tree_at (suc l) s j) i (or_none inside_of (node_entries 0x0002 (suc (suc l)) (node_bytes s i))) k)
    (interior-stays s s' (λ j. tree_at (suc l) s j) (λ j. tree_at (suc l) s' j) (λ j h. tree-stays (suc l) s s' j h) i
    (or_none inside_of (node_entries 0x0002 (suc (suc l)) (node_bytes s i))) k)
