-- Heal, on the tree of an image: what document 01 asks of it.
use Rattle.std.specs.Prelude.{ℕ, zero, suc, ◌-◌, ◌≡◌, refl, List, [], ◌∷◌, ◌++◌, Bool, true, false, ◌&&◌, cond, length, eqb}
use Rattle.image.specs.Prelude.{sym, ap, ap₂, ◌∙◌, Option, none, some, Option·some-injective, Option·none-ne-some, arith, eqb-true, le-leb, cases}
use Rattle.image.specs.Bytes.{shared}
use Rattle.image.specs.Entry.{Message}
use Rattle.image.specs.Table.{Row}
use Rattle.image.specs.Image.{Tree, unread, leaf, interior, Forest, end, tree, Branch, Inside, forest_of, leaf_of, interior_of, or_none, tree_at, node_entries, node_bytes, pairs_of, inside_of}
use Rattle.image.specs.Meaning.{high_of}
use Rattle.image.specs.Sound.{sound_tree, sound_forest, sound_root, numbers, once, in_range, lowest, highest}
use Rattle.image.specs.Upkeep.{Reachable, reachable, reachable_in, reachable_at, every}
use Rattle.octets.specs.Order.{and_left, and_right}
use Rattle.laws.specs.Rising.{both}
use Rattle.laws.specs.LookupTable.{Parts, parts, inner}
use Rattle.laws.specs.Upkeep.Sublists.{once-sub, range-sub}
use Rattle.laws.specs.Upkeep.Merge.{tall, tall_in}
use Rattle.laws.specs.Upkeep.Mends.{Mends, tall-branches, tall-first, tall-later}
use Rattle.laws.specs.Upkeep.Join.{healing}
use Rattle.laws.specs.Upkeep.Alter.{altered, altered_in, on_branches, high-altered}
use Rattle.laws.specs.LiveCount.{every-both}

-- the children of node n merged until none of them fit
unfoldable pub healed_tree : Tree → ℕ → List ℕ → List ℕ → Tree
healed_tree t n lo hi = altered t n (on_branches healing) lo hi

-- THE NODE ITSELF: number, level, pivots and messages stay, its children are changed
unfoldable pub rechilded : (Forest → List ℕ → List ℕ → Forest) → Reachable → Reachable
rechilded c x =
    record {
      number = x.number;
      level = x.level;
      low = x.low;
      high = x.high;
      messages = x.messages;
      children = c x.children (shared x.low x.high) x.high;
    }

unfoldable pub rechild : (Forest → List ℕ → List ℕ → Forest) → Option Reachable → Option Reachable
rechild c none = none
rechild c (some x) = some (rechilded c x)

unfoldable pub or_else : Option Reachable → Option Reachable → Option Reachable
or_else none o = o
or_else (some x) o = some x

pub place-append : (n : ℕ) (xs ys : List Reachable) → reachable_at n (xs ++ ys) ≡ or_else (reachable_at n xs) (reachable_at n ys)
unfolding reachable_at or_else
place-append n [] ys = refl
place-append n (x ∷ xs) ys = cases (eqb n x.number) (λ e. rw e) (λ e. rw e (place-append n xs ys))

rechild-else : (c : Forest → List ℕ → List ℕ → Forest) (o p : Option Reachable) → rechild c (or_else o p) ≡ or_else (rechild c o) (rechild c p)
unfolding rechild or_else
rechild-else c none p = refl
rechild-else c (some x) p = refl

place-leaf : (c : Forest → List ℕ → List ℕ → Forest) → ((l h : List ℕ) → c end l h ≡ end) → (i n : ℕ) (rs : List Row) (level : ℕ) (lo hi : List ℕ)
    → reachable_at n (reachable (leaf i rs) level lo hi) ≡ rechild c (reachable_at n (reachable (leaf i rs) level lo hi))
unfolding reachable_at reachable rechild rechilded
place-leaf c none-new i n rs level lo hi = cases (eqb n i) (λ e. rw (e, none-new (shared lo hi) hi)) (λ e. rw e)

place-choice : (c : Forest → List ℕ → List ℕ → Forest) (b : Bool) (i n : ℕ) (f g : Forest) (ms : List Message) (level : ℕ) (lo hi : List ℕ) → eqb n i ≡ b
    → reachable_at n (reachable_in g (level - 1) (shared lo hi) hi) ≡ rechild c (reachable_at n (reachable_in f (level - 1) (shared lo hi) hi))
    → reachable_at n (reachable (cond b (on_branches c (interior i f ms) lo hi) (interior i g ms)) level lo hi) ≡ rechild c (reachable_at n (reachable (interior i f ms) level lo hi))
unfolding reachable_at reachable on_branches rechild rechilded
place-choice c true i n f g ms level lo hi e k = rw e
place-choice c false i n f g ms level lo hi e k = rw e k

mutual
  unfolding altered altered_in reachable reachable_in reachable_at rechild

  pub place-altered : (t : Tree) (n : ℕ) (c : Forest → List ℕ → List ℕ → Forest) → ((l h : List ℕ) → c end l h ≡ end) → (level : ℕ) (lo hi : List ℕ)
      → reachable_at n (reachable (altered t n (on_branches c) lo hi) level lo hi) ≡ rechild c (reachable_at n (reachable t level lo hi))
  place-altered (unread i) n c law level lo hi = refl
  place-altered (leaf i rs) n c law level lo hi = place-leaf c law i n rs level lo hi
  place-altered (interior i f ms) n c law level lo hi =
      place-choice c (eqb n i) i n f (altered_in f n (on_branches c) (shared lo hi) hi) ms level lo hi refl (place-altered-in f n c law (level - 1) (shared lo hi) hi)

  pub place-altered-in : (f : Forest) (n : ℕ) (c : Forest → List ℕ → List ℕ → Forest) → ((l h : List ℕ) → c end l h ≡ end) → (level : ℕ) (lifted hi : List ℕ)
      → reachable_at n (reachable_in (altered_in f n (on_branches c) lifted hi) level lifted hi) ≡ rechild c (reachable_at n (reachable_in f level lifted hi))
  place-altered-in end n c law level lifted hi = refl
  place-altered-in (tree s t f) n c law level lifted hi =
      rw (high-altered f n (on_branches c) lifted hi lifted hi)
      (place-append n (reachable (altered t n (on_branches c) (lifted ++ s) (high_of lifted hi f)) level (lifted ++ s) (high_of lifted hi f))
      (reachable_in (altered_in f n (on_branches c) lifted hi) level lifted hi)
      ∙ ap₂ or_else (place-altered t n c law level (lifted ++ s) (high_of lifted hi f)) (place-altered-in f n c law level lifted hi)
      ∙ sym (rechild-else c (reachable_at n (reachable t level (lifted ++ s) (high_of lifted hi f))) (reachable_at n (reachable_in f level lifted hi)))
      ∙ ap (rechild c) (sym (place-append n (reachable t level (lifted ++ s) (high_of lifted hi f)) (reachable_in f level lifted hi))))

-- each place of a sound tree has sound children
unfoldable pub good_place : Reachable → Bool
good_place x = sound_forest x.children (shared x.low x.high) x.low x.high && tall_in x.children (x.level - 1)

mutual
  unfolding reachable reachable_in every good_place sound_forest tall_in

  pub places-good : (t : Tree) (level : ℕ) (lo hi : List ℕ) → sound_tree t lo hi ≡ true → tall t level ≡ true → every good_place (reachable t level lo hi) ≡ true
  places-good (unread i) level lo hi e h = refl
  places-good (leaf i rs) level lo hi e h = refl
  places-good (interior i f ms) level lo hi e h =
      both (both (inner i f ms lo hi e).branches (tall-branches i f ms level h))
      (places-good-in f (level - 1) (shared lo hi) lo hi (inner i f ms lo hi e).branches (tall-branches i f ms level h))

  pub places-good-in : (f : Forest) (level : ℕ) (lifted lo hi : List ℕ) → sound_forest f lifted lo hi ≡ true → tall_in f level ≡ true
      → every good_place (reachable_in f level lifted hi) ≡ true
  places-good-in end level lifted lo hi e h = refl
  places-good-in (tree s t f) level lifted lo hi e h =
      every-both good_place (reachable t level (lifted ++ s) (high_of lifted hi f)) (reachable_in f level lifted hi)
      (places-good t level (lifted ++ s) (high_of lifted hi f) (parts s t f lifted lo hi e).first (tall-first s t f level h))
      (places-good-in f level lifted lo hi (parts s t f lifted lo hi e).later (tall-later s t f level h))

-- what is found by its number has it, and passes what every place passes
pub place-number : (n : ℕ) (xs : List Reachable) (x : Reachable) → reachable_at n xs ≡ some x → n ≡ x.number
unfolding reachable_at
place-number n [] x e = absurd (Option·none-ne-some x e)
place-number n (y ∷ xs) x e = go (eqb n y.number) refl (λ h. place-number n xs x h)
  where
    go : (b : Bool) → eqb n y.number ≡ b → (reachable_at n xs ≡ some x → n ≡ x.number) → n ≡ x.number
    go true f ih =
        let h : some y ≡ some x = rw f at e in
        eqb-true n y.number f ∙ ap (λ (z : Reachable). z.number) (Option·some-injective y x h)
    go false f ih = ih (rw f at e)

pub place-test : (test : Reachable → Bool) (n : ℕ) (xs : List Reachable) (x : Reachable) → every test xs ≡ true → reachable_at n xs ≡ some x → test x ≡ true
unfolding reachable_at every
place-test test n [] x a e = absurd (Option·none-ne-some x e)
place-test test n (y ∷ xs) x a e = go (eqb n y.number) refl (λ h. place-test test n xs x (and_right (test y) _ a) h)
  where
    go : (b : Bool) → eqb n y.number ≡ b → (reachable_at n xs ≡ some x → test x ≡ true) → test x ≡ true
    go true f ih =
        let h : some y ≡ some x = rw f at e in
        ap test (sym (Option·some-injective y x h)) ∙ and_left (test y) _ a
    go false f ih = ih (rw f at e)

-- AT THE ROOT
pub mends-root : (n live : ℕ) (t u : Tree) (level : ℕ) → Mends t u lowest highest level → sound_root n live t ≡ true → sound_root n live u ≡ true
unfolding sound_root
mends-root n live t u level m e =
    let a : sound_tree t lowest highest && once (numbers t) && in_range n (numbers t) ≡ true = and_left _ _ e in
    let b : sound_tree t lowest highest && once (numbers t) ≡ true = and_left _ _ a in
    both (both (both m.sound (once-sub m.nodes (and_right (sound_tree t lowest highest) _ b)))
    (range-sub n m.nodes (and_right (sound_tree t lowest highest && once (numbers t)) _ a)))
    (ap (λ r. eqb live (length r)) m.table ∙ and_right (sound_tree t lowest highest && once (numbers t) && in_range n (numbers t)) _ e)

-- THE TREE OF AN IMAGE has the level that it is read with
forest-tall : (under : ℕ → Tree) (level : ℕ) → ((j : ℕ) (lo hi : List ℕ) → sound_tree (under j) lo hi ≡ true → tall (under j) level ≡ true)
    → (ks : List Branch) (lifted lo hi : List ℕ) → sound_forest (forest_of under ks) lifted lo hi ≡ true → tall_in (forest_of under ks) level ≡ true
unfolding forest_of tall_in
forest-tall under level law [] lifted lo hi e = refl
forest-tall under level law (k ∷ ks) lifted lo hi e =
    let p : Parts k.pivot (under k.number) (forest_of under ks) lifted lo hi = parts k.pivot (under k.number) (forest_of under ks) lifted lo hi e in
    both (law k.number (lifted ++ k.pivot) (high_of lifted hi (forest_of under ks)) p.first) (forest-tall under level law ks lifted lo hi p.later)

leaf-tall : (i : ℕ) (o : Option (List Row)) (lo hi : List ℕ) → sound_tree (leaf_of i o) lo hi ≡ true → tall (leaf_of i o) 1 ≡ true
unfolding leaf_of tall sound_tree
leaf-tall i none lo hi e = e
leaf-tall i (some rs) lo hi e = refl

interior-tall : (under : ℕ → Tree) (l : ℕ) → ((j : ℕ) (lo hi : List ℕ) → sound_tree (under j) lo hi ≡ true → tall (under j) (suc l) ≡ true)
    → (i : ℕ) (o : Option Inside) (lo hi : List ℕ) → sound_tree (interior_of under i o) lo hi ≡ true → tall (interior_of under i o) (suc (suc l)) ≡ true
unfolding interior_of tall sound_tree
interior-tall under l law i none lo hi e = e
interior-tall under l law i (some x) lo hi e =
    let down : suc (suc l) - 1 ≡ suc l = omega arith in
    both (le-leb 2 (suc (suc l)) (omega arith))
    (rw down (forest-tall under (suc l) law x.branches (shared lo hi) lo hi (inner i (forest_of under x.branches) x.messages lo hi e).branches))

pub tree-tall : (l : ℕ) (image : List ℕ) (i : ℕ) (lo hi : List ℕ) → sound_tree (tree_at l image i) lo hi ≡ true → tall (tree_at l image i) l ≡ true
unfolding tree_at sound_tree tall
tree-tall zero image i lo hi e = e
tree-tall (suc zero) image i lo hi e = leaf-tall i (or_none pairs_of (node_entries 0x0001 1 (node_bytes image i))) lo hi e
tree-tall (suc (suc l)) image i lo hi e =
    interior-tall (λ j. tree_at (suc l) image j) l (λ j x y h. tree-tall (suc l) image j x y h) i
    (or_none inside_of (node_entries 0x0002 (suc (suc l)) (node_bytes image i))) lo hi e
