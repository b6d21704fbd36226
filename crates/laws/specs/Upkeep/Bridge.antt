-- From trees to images: where only the subtree of node n is written anew, the tree of the image is the old one with that node changed.
use Rattle.std.specs.Prelude.{ℕ, zero, suc, ◌-◌, ◌≤◌, ◌≡◌, refl, List, [], ◌∷◌, ◌++◌, Bool, true, false, ◌&&◌, ◌||◌, not, length, leb, eqb}
use Rattle.image.specs.Prelude.{sym, ap, ap₂, subst, ◌∙◌, append-nil, false≢true, Option, none, some, Option·some-injective, Option·none-ne-some, arith, eqb-true, eq-eqb, leb-true, cases}
use Rattle.image.specs.Bytes.{shared}
use Rattle.image.specs.Table.{Row}
use Rattle.image.specs.Image.{Tree, interior, end, tree, Branch, Inside, node_bytes, node_entries, pairs_of, inside_of, forest_of, leaf_of, interior_of, or_none, tree_at, header, header_of, header_laid_out, nodes_of, tree_of}
use Rattle.image.specs.Meaning.{high_of, rows}
use Rattle.image.specs.Sound.{sound_tree, sound_forest, numbers, numbers_in, is_in, once, sound_header, sound_root, sound, table_of, lowest, highest}
use Rattle.image.specs.Upkeep.{Reachable, reachable, reachable_in, reachable_at}
use Rattle.octets.specs.Order.{and_left, and_right, not_so, not-true, not-false, refuted}
use Rattle.laws.specs.Rising.{both}
use Rattle.laws.specs.Frame.{Keeps, tree-stays, forest-stays, or_right, in_left, in_right}
use Rattle.laws.specs.LookupTable.{Parts, parts, inner}
use Rattle.laws.specs.Upkeep.Sublists.{Sub, sub_refl, sub-append, sub_in, sub-none}
use Rattle.laws.specs.Upkeep.Kept.{numbers_of, numbers-places}
use Rattle.laws.specs.Upkeep.Alter.{altered, altered_in, altered-absent, altered-absent-in, Sane, altered-mends}
use Rattle.laws.specs.Upkeep.Healed.{or_else, place-append, place-test, mends-root, tree-tall}
use Rattle.laws.specs.Upkeep.Flushed.{places-under}
use Rattle.laws.specs.Upkeep.Merge.{tall}
use Rattle.laws.specs.Upkeep.Mends.{Mends}
use Rattle.laws.specs.ButLive.{sound-parts}

-- distinct numbers of two lists
pub once-left : (is js : List ℕ) → once (is ++ js) ≡ true → once is ≡ true
unfolding once
once-left [] js e = refl
once-left (i ∷ is) js e =
    both (not-false (is_in i is) (refuted (λ f. not_so (in_left i is js f) (not-true (is_in i (is ++ js)) (and_left _ _ e))))) (once-left is js (and_right (not (is_in i (is ++ js))) _ e))

pub once-right : (is js : List ℕ) → once (is ++ js) ≡ true → once js ≡ true
unfolding once
once-right [] js e = e
once-right (i ∷ is) js e = once-right is js (and_right (not (is_in i (is ++ js))) _ e)

pub once-apart : (is js : List ℕ) (j : ℕ) → once (is ++ js) ≡ true → is_in j is ≡ true → is_in j js ≡ false
unfolding once is_in
once-apart [] js j e f = absurd (false≢true f)
once-apart (i ∷ is) js j e f = go (eqb j i) refl (λ h. once-apart is js j (and_right (not (is_in i (is ++ js))) _ e) h)
  where
    go : (x : Bool) → eqb j i ≡ x → (is_in j is ≡ true → is_in j js ≡ false) → is_in j js ≡ false
    go true g ih = ap (λ k. is_in k js) (eqb-true j i g) ∙ refuted (λ g. not_so (in_right i is js g) (not-true (is_in i (is ++ js)) (and_left _ _ e)))
    go false g ih = ih (subst (λ x. x || is_in j is ≡ true) g f)

-- the numbers of places that are found, and not found
pub found-in : (n : ℕ) (xs : List Reachable) (x : Reachable) → reachable_at n xs ≡ some x → is_in n (numbers_of xs) ≡ true
unfolding reachable_at numbers_of is_in
found-in n [] x e = absurd (Option·none-ne-some x e)
found-in n (y ∷ xs) x e = go (eqb n y.number) refl (λ h. found-in n xs x h)
  where
    go : (b : Bool) → eqb n y.number ≡ b → (reachable_at n xs ≡ some x → is_in n (numbers_of xs) ≡ true) → eqb n y.number || is_in n (numbers_of xs) ≡ true
    go true f ih = rw f
    go false f ih = rw f (ih (rw f at e))

pub not_found : (n : ℕ) (xs : List Reachable) → reachable_at n xs ≡ none → is_in n (numbers_of xs) ≡ false
unfolding reachable_at numbers_of is_in
not_found n [] e = refl
not_found n (y ∷ xs) e = go (eqb n y.number) refl (λ h. not_found n xs h)
  where
    go : (b : Bool) → eqb n y.number ≡ b → (reachable_at n xs ≡ none → is_in n (numbers_of xs) ≡ false) → eqb n y.number || is_in n (numbers_of xs) ≡ false
    go true f ih = let h : some y ≡ none = rw f at e in absurd (Option·none-ne-some y (sym h))
    go false f ih = rw f (ih (rw f at e))

pub level-below : (l : ℕ) → suc (suc l) - 1 ≡ suc l
level-below l = omega arith

-- THE SUBTREE OF A PLACE
module _ (s : List ℕ) (n : ℕ) (x : Reachable) where
  abbrev sub : List ℕ
  sub = numbers (tree_at x.level s n)

  pub here : (l : ℕ) (i : ℕ) → x.level ≡ l → n ≡ i → tree_at x.level s n ≡ tree_at l s i
  here l i a b = ap (λ k. tree_at k s n) a ∙ ap (λ j. tree_at l s j) b

  here-sub : (l : ℕ) (i : ℕ) → x.level ≡ l → n ≡ i → Sub sub (numbers (tree_at l s i))
  here-sub l i a b = subst (λ t. Sub sub (numbers t)) (here l i a b) (sub_refl sub)

  -- the place is under the first child, or further on
  pub child-cases : (under : ℕ → Tree) (level : ℕ) (k : Branch) (ks : List Branch) (lifted hi : List ℕ) {A : Type 0}
      → reachable_at n (reachable_in (forest_of under (k ∷ ks)) level lifted hi) ≡ some x
      → (reachable_at n (reachable (under k.number) level (lifted ++ k.pivot) (high_of lifted hi (forest_of under ks))) ≡ some x → A)
      → (reachable_at n (reachable (under k.number) level (lifted ++ k.pivot) (high_of lifted hi (forest_of under ks))) ≡ none → reachable_at n (reachable_in (forest_of under ks) level lifted hi) ≡ some x → A) → A
  unfolding forest_of reachable_in or_else
  child-cases under level k ks lifted hi {A} p here-first further = go (reachable_at n (reachable (under k.number) level (lifted ++ k.pivot) (high_of lifted hi (forest_of under ks)))) refl
    where
      both-places : or_else (reachable_at n (reachable (under k.number) level (lifted ++ k.pivot) (high_of lifted hi (forest_of under ks)))) (reachable_at n (reachable_in (forest_of under ks) level lifted hi)) ≡ some x
      both-places = sym (place-append n (reachable (under k.number) level (lifted ++ k.pivot) (high_of lifted hi (forest_of under ks))) (reachable_in (forest_of under ks) level lifted hi)) ∙ p

      go : (o : Option Reachable) → reachable_at n (reachable (under k.number) level (lifted ++ k.pivot) (high_of lifted hi (forest_of under ks))) ≡ o → A
      go none e = further e (subst (λ o. or_else o (reachable_at n (reachable_in (forest_of under ks) level lifted hi)) ≡ some x) e both-places)
      go (some z) e = here-first (e ∙ subst (λ o. or_else o (reachable_at n (reachable_in (forest_of under ks) level lifted hi)) ≡ some x) e both-places)

  forest-sub : (under : ℕ → Tree) (level : ℕ)
      → ((j : ℕ) (lo hi : List ℕ) → reachable_at n (reachable (under j) level lo hi) ≡ some x → Sub sub (numbers (under j)))
      → (ks : List Branch) (lifted hi : List ℕ) → reachable_at n (reachable_in (forest_of under ks) level lifted hi) ≡ some x → Sub sub (numbers_in (forest_of under ks))
  unfolding forest_of reachable_in numbers_in reachable_at
  forest-sub under level law [] lifted hi p = absurd (Option·none-ne-some x p)
  forest-sub under level law (k ∷ ks) lifted hi p =
      child-cases under level k ks lifted hi p
      (λ q. rw (← append-nil sub) (sub-append (law k.number (lifted ++ k.pivot) (high_of lifted hi (forest_of under ks)) q) (sub-none (numbers_in (forest_of under ks)))))
      (λ o q. sub-append (sub-none (numbers (under k.number))) (forest-sub under level law ks lifted hi q))

  pub place_here : (y : Reachable) (ys : List Reachable) → eqb n y.number ≡ true → reachable_at n (y ∷ ys) ≡ some x → y ≡ x
  unfolding reachable_at
  place_here y ys e p = Option·some-injective y x (rw e at p)

  pub place-past : (y : Reachable) (ys : List Reachable) → eqb n y.number ≡ false → reachable_at n (y ∷ ys) ≡ some x → reachable_at n ys ≡ some x
  unfolding reachable_at
  place-past y ys e p = rw e at p

  pub place-nil : reachable_at n [] ≡ some x → ⊥
  unfolding reachable_at
  place-nil p = Option·none-ne-some x p

  leaf-sub : (i : ℕ) (o : Option (List Row)) (lo hi : List ℕ) → (x.level ≡ 1 → n ≡ i → Sub sub (numbers (leaf_of i o)))
      → reachable_at n (reachable (leaf_of i o) 1 lo hi) ≡ some x → Sub sub (numbers (leaf_of i o))
  unfolding leaf_of reachable
  leaf-sub i none lo hi k p = absurd (place-nil p)
  leaf-sub i (some rs) lo hi k p =
      cases (eqb n i)
      (λ e. k (ap (λ (z : Reachable). z.level) (sym (place_here (record { number = i; level = 1; low = lo; high = hi; messages = []; children = end }) [] e p))) (eqb-true n i e))
      (λ e. absurd (place-nil (place-past (record { number = i; level = 1; low = lo; high = hi; messages = []; children = end }) [] e p)))

  inner-sub : (under : ℕ → Tree) (l i : ℕ) (o : Option Inside) (lo hi : List ℕ)
      → ((j : ℕ) (clo chi : List ℕ) → reachable_at n (reachable (under j) (l - 1) clo chi) ≡ some x → Sub sub (numbers (under j)))
      → (x.level ≡ l → n ≡ i → Sub sub (numbers (interior_of under i o)))
      → reachable_at n (reachable (interior_of under i o) l lo hi) ≡ some x → Sub sub (numbers (interior_of under i o))
  unfolding interior_of reachable numbers
  inner-sub under l i none lo hi law k p = absurd (place-nil p)
  inner-sub under l i (some y) lo hi law k p = go (eqb n i) refl
    where
      top : Reachable
      top = record { number = i; level = l; low = lo; high = hi; messages = y.messages; children = forest_of under y.branches }

      go : (b : Bool) → eqb n i ≡ b → Sub sub (i ∷ numbers_in (forest_of under y.branches))
      go true e = k (ap (λ (z : Reachable). z.level) (sym (place_here top (reachable_in (forest_of under y.branches) (l - 1) (shared lo hi) hi) e p))) (eqb-true n i e)
      go false e =
          Sub.gone (forest-sub under (l - 1) law y.branches (shared lo hi) hi (place-past top (reachable_in (forest_of under y.branches) (l - 1) (shared lo hi) hi) e p))

  -- the nodes of the subtree are nodes of the tree
  pub place-sub : (l i : ℕ) (lo hi : List ℕ) → reachable_at n (reachable (tree_at l s i) l lo hi) ≡ some x → Sub sub (numbers (tree_at l s i))
  unfolding tree_at reachable
  place-sub zero i lo hi p = absurd (place-nil p)
  place-sub (suc zero) i lo hi p =
      leaf-sub i (or_none pairs_of (node_entries 0x0001 1 (node_bytes s i))) lo hi (λ a b. here-sub 1 i a b) p
  place-sub (suc (suc l)) i lo hi p =
      inner-sub (λ j. tree_at (suc l) s j) (suc (suc l)) i (or_none inside_of (node_entries 0x0002 (suc (suc l)) (node_bytes s i))) lo hi
      (λ j clo chi q. place-sub (suc l) j clo chi (subst (λ m. reachable_at n (reachable (tree_at (suc l) s j) m clo chi) ≡ some x) (level-below l) q))
      (λ a b. here-sub (suc (suc l)) i a b) p

pub root-sound : (n live : ℕ) (t : Tree) → sound_root n live t ≡ true → sound_tree t lowest highest ≡ true
unfolding sound_root
root-sound n live t e = and_left _ _ (and_left _ _ (and_left _ _ e))

pub image-tall : (s : List ℕ) → sound_tree (tree_of s) lowest highest ≡ true → tall (tree_of s) (header_of s).levels ≡ true
unfolding tree_of
image-tall s e = tree-tall (header_of s).levels s (header_of s).root lowest highest e

own_in : (under : ℕ → Tree) (j : ℕ) (w : Option Inside) → is_in j (numbers (interior_of under j w)) ≡ true
unfolding interior_of numbers is_in
own_in under j none = rw (eq-eqb j j refl)
own_in under j (some y) = rw (eq-eqb j j refl)

-- Node n's place is x. The subtree of n has changed as `change` says, and no other node of the tree has.
module _ (s s' : List ℕ) (n : ℕ) (x : Reachable) (change : Tree → List ℕ → List ℕ → Tree) (big : 2 ≤ x.level)
    (changed : tree_at x.level s' n ≡ change (tree_at x.level s n) x.low x.high) where
  abbrev Other : List ℕ → Type 0
  Other is = (j : ℕ) → is_in j is ≡ true → is_in j (numbers (tree_at x.level s n)) ≡ false → node_bytes s' j ≡ node_bytes s j

  abbrev Bridged : ℕ → (ℕ → Tree) → (ℕ → Tree) → Type 0
  Bridged level under under' =
      (j : ℕ) (lo hi : List ℕ) → sound_tree (under j) lo hi ≡ true → once (numbers (under j)) ≡ true → reachable_at n (reachable (under j) level lo hi) ≡ some x
      → Other (numbers (under j)) → under' j ≡ altered (under j) n change lo hi

  out-of-sub : {js : List ℕ} (is : List ℕ) (j : ℕ) → Sub (numbers (tree_at x.level s n)) js → (is_in j js ≡ true → is_in j is ≡ false) → is_in j is ≡ true
      → is_in j (numbers (tree_at x.level s n)) ≡ false
  out-of-sub is j k away h = refuted (λ e. not_so h (away (sub_in j k e)))

  -- the two sides of the list of children
  apart-left : (is js : List ℕ) → once (is ++ js) ≡ true → (j : ℕ) → is_in j js ≡ true → is_in j is ≡ false
  apart-left is js e j h = refuted (λ f. not_so h (once-apart is js j e f))

  module _ (under under' : ℕ → Tree) (level : ℕ) (rec : Bridged level under under')
      (stay : (j : ℕ) → Keeps s s' (numbers (under j)) → under' j ≡ under j)
      (subs : (j : ℕ) (lo hi : List ℕ) → reachable_at n (reachable (under j) level lo hi) ≡ some x → Sub (numbers (tree_at x.level s n)) (numbers (under j))) where
    -- node n is under this child
    first-bridge : (t : Tree) (t' : Tree) (ks : List Branch) (clo chi lifted hi : List ℕ) → sound_tree t clo chi ≡ true
        → once (numbers t ++ numbers_in (forest_of under ks)) ≡ true → reachable_at n (reachable t level clo chi) ≡ some x
        → Other (numbers t ++ numbers_in (forest_of under ks))
        → Sub (numbers (tree_at x.level s n)) (numbers t)
        → forest_of under' ks ≡ altered_in (forest_of under ks) n change lifted hi
    unfolding Keeps
    first-bridge t t' ks clo chi lifted hi e o p h k =
        let there : is_in n (numbers t) ≡ true = ap (λ l. is_in n l) (sym (numbers-places t level clo chi e)) ∙ found-in n (reachable t level clo chi) x p in
        forest-stays s s' under under' stay ks
        (λ j b. h j (in_right j (numbers t) (numbers_in (forest_of under ks)) b)
        (out-of-sub (numbers_in (forest_of under ks)) j k (λ c. once-apart (numbers t) (numbers_in (forest_of under ks)) j o c) b))
        ∙ sym (altered-absent-in (forest_of under ks) n change lifted hi (once-apart (numbers t) (numbers_in (forest_of under ks)) n o there))

    -- node n is under a later child
    later-bridge : (j : ℕ) (ks : List Branch) (clo chi lifted hi : List ℕ) → sound_tree (under j) clo chi ≡ true
        → once (numbers (under j) ++ numbers_in (forest_of under ks)) ≡ true → reachable_at n (reachable (under j) level clo chi) ≡ none
        → Other (numbers (under j) ++ numbers_in (forest_of under ks))
        → Sub (numbers (tree_at x.level s n)) (numbers_in (forest_of under ks))
        → under' j ≡ altered (under j) n change clo chi
    unfolding Keeps
    later-bridge j ks clo chi lifted hi e o p h k =
        let gone : is_in n (numbers (under j)) ≡ false = ap (λ l. is_in n l) (sym (numbers-places (under j) level clo chi e)) ∙ not_found n (reachable (under j) level clo chi) p in
        stay j (λ i b. h i (in_left i (numbers (under j)) (numbers_in (forest_of under ks)) b)
        (out-of-sub (numbers (under j)) i k (λ c. apart-left (numbers (under j)) (numbers_in (forest_of under ks)) o i c) b))
        ∙ sym (altered-absent (under j) n change clo chi gone)

    forest-bridge : (ks : List Branch) (lifted lo hi : List ℕ) → sound_forest (forest_of under ks) lifted lo hi ≡ true → once (numbers_in (forest_of under ks)) ≡ true
        → reachable_at n (reachable_in (forest_of under ks) level lifted hi) ≡ some x → Other (numbers_in (forest_of under ks))
        → forest_of under' ks ≡ altered_in (forest_of under ks) n change lifted hi
    unfolding forest_of reachable_in numbers_in altered_in
    forest-bridge [] lifted lo hi e o p h = absurd (place-nil s n x p)
    forest-bridge (k ∷ ks) lifted lo hi e o p h =
        child-cases s n x under level k ks lifted hi p
        (λ r. ap₂ (λ a b. tree k.pivot a b)
        (rec k.number (lifted ++ k.pivot) (high_of lifted hi (forest_of under ks)) ps.first (once-left (numbers (under k.number)) (numbers_in (forest_of under ks)) o) r
        (λ j b c. h j (in_left j (numbers (under k.number)) (numbers_in (forest_of under ks)) b) c))
        (first-bridge (under k.number) (under' k.number) ks (lifted ++ k.pivot) (high_of lifted hi (forest_of under ks)) lifted hi ps.first o r h
        (subs k.number (lifted ++ k.pivot) (high_of lifted hi (forest_of under ks)) r)))
        (λ q r. ap₂ (λ a b. tree k.pivot a b)
        (later-bridge k.number ks (lifted ++ k.pivot) (high_of lifted hi (forest_of under ks)) lifted hi ps.first o q h
        (forest-sub s n x under level subs ks lifted hi r))
        (forest-bridge ks lifted lo hi ps.later (once-right (numbers (under k.number)) (numbers_in (forest_of under ks)) o) r
        (λ j b c. h j (in_right j (numbers (under k.number)) (numbers_in (forest_of under ks)) b) c)))
      where
        ps : Parts k.pivot (under k.number) (forest_of under ks) lifted lo hi
        ps = parts k.pivot (under k.number) (forest_of under ks) lifted lo hi e

    -- a node above n: its own bytes stay
    above-bridge : (i l : ℕ) (o : Option Inside) (lo hi : List ℕ) → l - 1 ≡ level → sound_tree (interior_of under i o) lo hi ≡ true → once (numbers (interior_of under i o)) ≡ true
        → eqb n i ≡ false → reachable_at n (reachable (interior_of under i o) l lo hi) ≡ some x → Other (numbers (interior_of under i o))
        → interior_of under' i o ≡ altered (interior_of under i o) n change lo hi
    unfolding interior_of reachable numbers altered once is_in
    above-bridge i l none lo hi d e o m p h = absurd (place-nil s n x p)
    above-bridge i l (some y) lo hi d e o m p h =
        rw m (ap (λ g. interior i g y.messages)
        (forest-bridge y.branches (shared lo hi) lo hi (inner i (forest_of under y.branches) y.messages lo hi e).branches
        (and_right (not (is_in i (numbers_in (forest_of under y.branches)))) _ o)
        (subst (λ k. reachable_at n (reachable_in (forest_of under y.branches) k (shared lo hi) hi) ≡ some x) d
        (place-past s n x (record { number = i; level = l; low = lo; high = hi; messages = y.messages; children = forest_of under y.branches })
        (reachable_in (forest_of under y.branches) (l - 1) (shared lo hi) hi) m p))
        (λ j b c. h j (or_right (eqb j i) (is_in j (numbers_in (forest_of under y.branches))) b) c)))

    -- a node above n is none of its subtree
    above-out : (i l : ℕ) (o : Option Inside) (lo hi : List ℕ) → l - 1 ≡ level → once (numbers (interior_of under i o)) ≡ true
        → eqb n i ≡ false → reachable_at n (reachable (interior_of under i o) l lo hi) ≡ some x → is_in i (numbers (tree_at x.level s n)) ≡ false
    unfolding interior_of reachable numbers once
    above-out i l none lo hi d o m p = absurd (place-nil s n x p)
    above-out i l (some y) lo hi d o m p = refuted (λ c. not_so (sub_in i down c) (not-true (is_in i (numbers_in (forest_of under y.branches))) (and_left _ _ o)))
      where
        down : Sub (numbers (tree_at x.level s n)) (numbers_in (forest_of under y.branches))
        down =
            forest-sub s n x under level subs y.branches (shared lo hi) hi
            (subst (λ k. reachable_at n (reachable_in (forest_of under y.branches) k (shared lo hi) hi) ≡ some x) d
            (place-past s n x (record { number = i; level = l; low = lo; high = hi; messages = y.messages; children = forest_of under y.branches })
            (reachable_in (forest_of under y.branches) (l - 1) (shared lo hi) hi) m p))

  -- node n itself
  top-level : (under : ℕ → Tree) (l i : ℕ) (o : Option Inside) (lo hi : List ℕ) → eqb n i ≡ true → reachable_at n (reachable (interior_of under i o) l lo hi) ≡ some x
      → (x.level ≡ l) × (x.low ≡ lo) × (x.high ≡ hi) × (altered (interior_of under i o) n change lo hi ≡ change (interior_of under i o) lo hi)
  unfolding interior_of reachable altered
  top-level under l i none lo hi e p = absurd (place-nil s n x p)
  top-level under l i (some y) lo hi e p =
      let top : Reachable = record { number = i; level = l; low = lo; high = hi; messages = y.messages; children = forest_of under y.branches } in
      let is : top ≡ x = place_here s n x top (reachable_in (forest_of under y.branches) (l - 1) (shared lo hi) hi) e p in
      (ap (λ (z : Reachable). z.level) (sym is), ap (λ (z : Reachable). z.low) (sym is), ap (λ (z : Reachable). z.high) (sym is), rw e)

  level-bridge : (l i : ℕ) (lo hi : List ℕ) → sound_tree (tree_at (suc (suc l)) s i) lo hi ≡ true → once (numbers (tree_at (suc (suc l)) s i)) ≡ true
      → reachable_at n (reachable (tree_at (suc (suc l)) s i) (suc (suc l)) lo hi) ≡ some x → Other (numbers (tree_at (suc (suc l)) s i))
      → Bridged (suc l) (λ j. tree_at (suc l) s j) (λ j. tree_at (suc l) s' j)
      → tree_at (suc (suc l)) s' i ≡ altered (tree_at (suc (suc l)) s i) n change lo hi
  unfolding tree_at
  level-bridge l i lo hi e o p h rec = go (eqb n i) refl
    where
      inside : Option Inside
      inside = or_none inside_of (node_entries 0x0002 (suc (suc l)) (node_bytes s i))

      down : suc (suc l) - 1 ≡ suc l
      down = omega arith

      stay : (j : ℕ) → Keeps s s' (numbers (tree_at (suc l) s j)) → tree_at (suc l) s' j ≡ tree_at (suc l) s j
      stay j k = tree-stays (suc l) s s' j k

      subs : (j : ℕ) (clo chi : List ℕ) → reachable_at n (reachable (tree_at (suc l) s j) (suc l) clo chi) ≡ some x → Sub (numbers (tree_at x.level s n)) (numbers (tree_at (suc l) s j))
      subs j clo chi q = place-sub s n x (suc l) j clo chi q

      go : (b : Bool) → eqb n i ≡ b → tree_at (suc (suc l)) s' i ≡ altered (tree_at (suc (suc l)) s i) n change lo hi
      go true m =
          let top : (x.level ≡ suc (suc l)) × (x.low ≡ lo) × (x.high ≡ hi) × (altered (tree_at (suc (suc l)) s i) n change lo hi ≡ change (tree_at (suc (suc l)) s i) lo hi) =
          top-level (λ j. tree_at (suc l) s j) (suc (suc l)) i inside lo hi m p in
          sym (here s' n x (suc (suc l)) i top.0 (eqb-true n i m))
          ∙ changed
          ∙ ap (λ t. change t x.low x.high) (here s n x (suc (suc l)) i top.0 (eqb-true n i m))
          ∙ ap₂ (λ a b. change (tree_at (suc (suc l)) s i) a b) top.1 top.2
          ∙ sym top.3
      go false m =
          let own : node_bytes s' i ≡ node_bytes s i =
          h i (first-in i inside)
          (above-out (λ j. tree_at (suc l) s j) (λ j. tree_at (suc l) s' j) (suc l) rec stay subs i (suc (suc l)) inside lo hi down o m p) in
          ap (λ (b : List ℕ). interior_of (λ j. tree_at (suc l) s' j) i (or_none inside_of (node_entries 0x0002 (suc (suc l)) b))) own
          ∙ above-bridge (λ j. tree_at (suc l) s j) (λ j. tree_at (suc l) s' j) (suc l) rec stay subs i (suc (suc l)) inside lo hi down e o m p h
        where
          first-in : (j : ℕ) (w : Option Inside) → is_in j (numbers (interior_of (λ k. tree_at (suc l) s k) j w)) ≡ true
          first-in j w = own_in (λ k. tree_at (suc l) s k) j w

  pub tree-bridge : (l i : ℕ) (lo hi : List ℕ) → sound_tree (tree_at l s i) lo hi ≡ true → once (numbers (tree_at l s i)) ≡ true
      → reachable_at n (reachable (tree_at l s i) l lo hi) ≡ some x → Other (numbers (tree_at l s i)) → tree_at l s' i ≡ altered (tree_at l s i) n change lo hi
  unfolding tree_at reachable
  tree-bridge zero i lo hi e o p h = absurd (place-nil s n x p)
  tree-bridge (suc zero) i lo hi e o p h =
      let low : leb x.level 1 ≡ true =
      place-test (λ y. leb y.level 1) n (reachable (leaf_of i (or_none pairs_of (node_entries 0x0001 1 (node_bytes s i)))) 1 lo hi) x
      (places-under (leaf_of i (or_none pairs_of (node_entries 0x0001 1 (node_bytes s i)))) 1 lo hi) p in
      absurd (omega (arith, leb-true x.level 1 low))
  tree-bridge (suc (suc l)) i lo hi e o p h =
      level-bridge l i lo hi e o p h (λ j clo chi a b c d. tree-bridge (suc l) j clo chi a b c d)

  -- A WHOLE IMAGE: node 0 stays, the change keeps what `Sane` asks; then the image is sound and its table is the same
  pub image-tree : sound s ≡ true → node_bytes s' 0 ≡ node_bytes s 0 → reachable_at n (reachable (tree_of s) (header_of s).levels lowest highest) ≡ some x
      → Other (numbers (tree_of s)) → tree_of s' ≡ altered (tree_of s) n change lowest highest
  unfolding tree_of header_of
  image-tree e z p h =
      let w = sound-parts s e in
      ap (λ (l : List ℕ). tree_at (header l).levels s' (header l).root) z
      ∙ tree-bridge (header_of s).levels (header_of s).root lowest highest w.tree w.once p h

  pub image-mends : sound s ≡ true → length s' ≡ length s → node_bytes s' 0 ≡ node_bytes s 0
      → reachable_at n (reachable (tree_of s) (header_of s).levels lowest highest) ≡ some x → Other (numbers (tree_of s)) → Sane change
      → (sound s' ≡ true) × (table_of s' ≡ table_of s)
  unfolding sound table_of header_of
  image-mends e len z p h law =
      let new : tree_of s' ≡ altered (tree_of s) n change lowest highest = image-tree e z p h in
      let front : header_laid_out (node_bytes s 0) && sound_header (nodes_of (length s)) (header_of s) ≡ true = and_left _ _ e in
      let root : sound_root (nodes_of (length s)) (header_of s).live (tree_of s) ≡ true =
      and_right (header_laid_out (node_bytes s 0) && sound_header (nodes_of (length s)) (header_of s)) _ e in
      let tree-sound : sound_tree (tree_of s) lowest highest ≡ true = root-sound (nodes_of (length s)) (header_of s).live (tree_of s) root in
      let m : Mends (tree_of s) (altered (tree_of s) n change lowest highest) lowest highest (header_of s).levels =
      altered-mends (tree_of s) n change law lowest highest (header_of s).levels tree-sound (image-tall s tree-sound) in
      let root' : sound_root (nodes_of (length s)) (header_of s).live (tree_of s') ≡ true =
      ap (sound_root (nodes_of (length s)) (header_of s).live) new
      ∙ mends-root (nodes_of (length s)) (header_of s).live (tree_of s) (altered (tree_of s) n change lowest highest) (header_of s).levels m root in
      (rw (z, len) (both front root'), ap (λ t. rows t lowest highest) new ∙ m.table)
