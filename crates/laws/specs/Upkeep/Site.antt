-- The site of a node in a sound image: what its place says of the node's own tree, of the numbers under it, and of its children.
-- Relies on Bridge for the subtree of a place, and on the parts of a sound image.
use Rattle.std.specs.Prelude.{ℕ, zero, suc, ◌-◌, ◌≤◌, ◌<◌, ◌≡◌, refl, List, [], ◌∷◌, ◌++◌, Bool, true, false, not, length, eqb}
use Rattle.image.specs.Prelude.{sym, ap, subst, ◌∙◌, Option, none, some, arith, eqb-true, eq-eqb}
use Rattle.image.specs.Bytes.{shared}
use Rattle.image.specs.Table.{Row}
use Rattle.image.specs.Image.{Tree, interior, Branch, Inside, end, node_bytes, nodes_of, node_entries, pairs_of, inside_of, forest_of, leaf_of, interior_of, or_none, tree_at, header_of, tree_of}
use Rattle.image.specs.Meaning.{high_of}
use Rattle.image.specs.Sound.{sound_forest, sound, numbers, numbers_in, is_in, once, lowest, highest}
use Rattle.image.specs.Upkeep.{Reachable, reachable, reachable_in, reachable_at}
use Rattle.octets.specs.Order.{and_left, and_right, not_so, not-true}
use Rattle.laws.specs.Frame.{or_left, or_right}
use Rattle.laws.specs.ButLive.{sound-parts}
use Rattle.laws.specs.Upkeep.Sublists.{Sub, once-sub, sub_in, range-of}
use Rattle.laws.specs.Upkeep.Merge.{tall_in}
use Rattle.laws.specs.Upkeep.Healed.{place-test, good_place, places-good}
use Rattle.laws.specs.Upkeep.Bridge.{level-below, here, child-cases, place_here, place-past, place-nil, place-sub, image-tall}

-- THE TREE OF A PLACE
module _ (s : List ℕ) (n : ℕ) (x : Reachable) where
  abbrev There : Type 0
  There = 2 ≤ x.level → tree_at x.level s n ≡ interior n x.children x.messages

  find-in : (under : ℕ → Tree) (level : ℕ) → ((j : ℕ) (lo hi : List ℕ) → reachable_at n (reachable (under j) level lo hi) ≡ some x → There)
      → (ks : List Branch) (lifted hi : List ℕ) → reachable_at n (reachable_in (forest_of under ks) level lifted hi) ≡ some x → There
  unfolding forest_of reachable_in
  find-in under level law [] lifted hi p = absurd (place-nil s n x p)
  find-in under level law (k ∷ ks) lifted hi p =
      child-cases s n x under level k ks lifted hi p (λ q. law k.number (lifted ++ k.pivot) (high_of lifted hi (forest_of under ks)) q)
      (λ o q. find-in under level law ks lifted hi q)

  leaf-there : (i : ℕ) (o : Option (List Row)) (lo hi : List ℕ) → reachable_at n (reachable (leaf_of i o) 1 lo hi) ≡ some x → There
  unfolding leaf_of reachable
  leaf-there i none lo hi p = absurd (place-nil s n x p)
  leaf-there i (some rs) lo hi p = go (eqb n i) refl
    where
      go : (b : Bool) → eqb n i ≡ b → There
      go true e = λ big.
          let low : 1 ≡ x.level = ap (λ (z : Reachable). z.level) (place_here s n x (record { number = i; level = 1; low = lo; high = hi; messages = []; children = end }) [] e p) in
          absurd (omega arith)
      go false e = absurd (place-nil s n x (place-past s n x (record { number = i; level = 1; low = lo; high = hi; messages = []; children = end }) [] e p))

  inner-there : (under : ℕ → Tree) (l i : ℕ) (o : Option Inside) (lo hi : List ℕ) → tree_at l s i ≡ interior_of under i o
      → ((j : ℕ) (clo chi : List ℕ) → reachable_at n (reachable (under j) (l - 1) clo chi) ≡ some x → There)
      → reachable_at n (reachable (interior_of under i o) l lo hi) ≡ some x → There
  unfolding interior_of reachable
  inner-there under l i none lo hi t law p = absurd (place-nil s n x p)
  inner-there under l i (some y) lo hi t law p = go (eqb n i) refl
    where
      top : Reachable
      top = record { number = i; level = l; low = lo; high = hi; messages = y.messages; children = forest_of under y.branches }

      go : (b : Bool) → eqb n i ≡ b → There
      go true e = λ big.
          let is : top ≡ x = place_here s n x top (reachable_in (forest_of under y.branches) (l - 1) (shared lo hi) hi) e p in
          let same : x.level ≡ l = ap (λ (z : Reachable). z.level) (sym is) in
          here s n x l i same (eqb-true n i e) ∙ t
          ∙ ap (λ (z : Reachable). interior i z.children z.messages) is ∙ ap (λ j. interior j x.children x.messages) (sym (eqb-true n i e))
      go false e =
          find-in under (l - 1) law y.branches (shared lo hi) hi (place-past s n x top (reachable_in (forest_of under y.branches) (l - 1) (shared lo hi) hi) e p)

  pub place-tree : (l i : ℕ) (lo hi : List ℕ) → reachable_at n (reachable (tree_at l s i) l lo hi) ≡ some x → There
  unfolding tree_at reachable
  place-tree zero i lo hi p = absurd (place-nil s n x p)
  place-tree (suc zero) i lo hi p = leaf-there i (or_none pairs_of (node_entries 0x0001 1 (node_bytes s i))) lo hi p
  place-tree (suc (suc l)) i lo hi p =
      inner-there (λ j. tree_at (suc l) s j) (suc (suc l)) i (or_none inside_of (node_entries 0x0002 (suc (suc l)) (node_bytes s i))) lo hi refl
      (λ j clo chi q. place-tree (suc l) j clo chi (subst (λ m. reachable_at n (reachable (tree_at (suc l) s j) m clo chi) ≡ some x) (level-below l) q)) p

-- THE CHILDREN OF A PLACE are sound and of the level below
pub place-good : (s : List ℕ) (n : ℕ) (x : Reachable) → sound s ≡ true → reachable_at n (reachable (tree_of s) (header_of s).levels lowest highest) ≡ some x → good_place x ≡ true
place-good s n x e p =
    place-test good_place n (reachable (tree_of s) (header_of s).levels lowest highest) x
    (places-good (tree_of s) (header_of s).levels lowest highest (sound-parts s e).tree (image-tall s (sound-parts s e).tree)) p

-- A NODE n of level l + 2, whose place is x
pub record Site (s : List ℕ) (n : ℕ) (x : Reachable) (l : ℕ) : Type 0 where
  pub there : tree_at x.level s n ≡ interior n x.children x.messages
  pub node : tree_at (suc (suc l)) s n ≡ interior n x.children x.messages
  pub sub : Sub (n ∷ numbers_in x.children) (numbers (tree_of s))
  pub range : (1 ≤ n) × (n < nodes_of (length s))
  pub branch_range : (j : ℕ) → is_in j (numbers_in x.children) ≡ true → (1 ≤ j) × (j < nodes_of (length s))
  pub other : (j : ℕ) → is_in j (numbers_in x.children) ≡ true → j ≡ n → ⊥
  pub branches_once : once (numbers_in x.children) ≡ true
  pub branches_sound : sound_forest x.children (shared x.low x.high) x.low x.high ≡ true
  pub branches_tall : tall_in x.children (suc l) ≡ true

pub site : (s : List ℕ) (n : ℕ) (x : Reachable) (l : ℕ) → sound s ≡ true → reachable_at n (reachable (tree_of s) (header_of s).levels lowest highest) ≡ some x
    → x.level ≡ suc (suc l) → Site s n x l
unfolding tree_of numbers is_in once good_place
site s n x l e p level =
    record {
      there = is;
      node = ap (λ m. tree_at m s n) (sym level) ∙ is;
      sub = within;
      range = range-of (nodes_of (length s)) n (numbers (tree_of s)) (sound-parts s e).range (sub_in n within (or_left (eqb n n) (is_in n (numbers_in x.children)) (eq-eqb n n refl)));
      branch_range = λ j c. range-of (nodes_of (length s)) j (numbers (tree_of s)) (sound-parts s e).range (sub_in j within (or_right (eqb j n) (is_in j (numbers_in x.children)) c));
      other = λ j c q. not_so (ap (λ i. is_in i (numbers_in x.children)) (sym q) ∙ c) (not-true (is_in n (numbers_in x.children)) (and_left _ _ all_once));
      branches_once = and_right (not (is_in n (numbers_in x.children))) _ all_once;
      branches_sound = and_left (sound_forest x.children (shared x.low x.high) x.low x.high) _ (place-good s n x e p);
      branches_tall =
          ap (λ m. tall_in x.children m) (sym down)
          ∙ and_right (sound_forest x.children (shared x.low x.high) x.low x.high) _ (place-good s n x e p);
    }
  where
    down : x.level - 1 ≡ suc l
    down = omega (arith, level)

    is : tree_at x.level s n ≡ interior n x.children x.messages
    is = place-tree s n x (header_of s).levels (header_of s).root lowest highest p (omega (arith, level))

    within : Sub (n ∷ numbers_in x.children) (numbers (tree_of s))
    within = subst (λ t. Sub (numbers t) (numbers (tree_of s))) is (place-sub s n x (header_of s).levels (header_of s).root lowest highest p)

    all_once : once (n ∷ numbers_in x.children) ≡ true
    all_once = once-sub within (sound-parts s e).once
