-- The node of a given number, anywhere in a tree, changed.
use Rattle.std.specs.Prelude.{ℕ, ◌-◌, ◌≡◌, refl, List, [], ◌++◌, Bool, true, false, cond, eqb}
use Rattle.image.specs.Prelude.{ap, ap₂, inl}
use Rattle.image.specs.Bytes.{shared}
use Rattle.image.specs.Entry.{Message}
use Rattle.image.specs.Image.{Tree, unread, leaf, interior, Forest, end, tree}
use Rattle.image.specs.Meaning.{high_of}
use Rattle.image.specs.Sound.{sound_tree, sound_forest, numbers, numbers_in, is_in}
use Rattle.image.specs.Upkeep.{reachable, reachable_in}
use Rattle.octets.specs.Order.{not_so, or-none-right, or-none-left, refuted}
use Rattle.laws.specs.LookupTable.{parts, inner}
use Rattle.laws.specs.Frame.{in_left, in_right}
use Rattle.laws.specs.Upkeep.Kept.{Kept, kept_refl, kept_append}
use Rattle.laws.specs.Upkeep.Merge.{tall, tall_in}
use Rattle.laws.specs.Upkeep.Mends.{Mends, MendsIn, mends-refl, mends-in-refl, mends-tree, mends-node, tall-branches, tall-first, tall-later}
use Rattle.laws.specs.Upkeep.Join.{heads}

-- interior nodes of number n, changed; the change is told the node's pivots
unfoldable mutual
  pub altered : Tree → ℕ → (Tree → List ℕ → List ℕ → Tree) → List ℕ → List ℕ → Tree
  altered (unread i) n change lo hi = unread i
  altered (leaf i rs) n change lo hi = leaf i rs
  altered (interior i f ms) n change lo hi =
      cond (eqb n i) (change (interior i f ms) lo hi) (interior i (altered_in f n change (shared lo hi) hi) ms)

  pub altered_in : Forest → ℕ → (Tree → List ℕ → List ℕ → Tree) → List ℕ → List ℕ → Forest
  altered_in end n change lifted hi = end
  altered_in (tree s t f) n change lifted hi =
      tree s (altered t n change (lifted ++ s) (high_of lifted hi f)) (altered_in f n change lifted hi)

-- a change of the children alone
unfoldable pub on_branches : (Forest → List ℕ → List ℕ → Forest) → Tree → List ℕ → List ℕ → Tree
on_branches c (unread i) lo hi = unread i
on_branches c (leaf i rs) lo hi = leaf i rs
on_branches c (interior i f ms) lo hi = interior i (c f (shared lo hi) hi) ms

pub high-altered : (f : Forest) (n : ℕ) (change : Tree → List ℕ → List ℕ → Tree) (lifted hi l h : List ℕ) → high_of l h (altered_in f n change lifted hi) ≡ high_of l h f
unfolding altered_in high_of
high-altered end n change lifted hi l h = refl
high-altered (tree s t f) n change lifted hi l h = refl

-- a change that keeps what `Mends` says of each sound node
unfoldable pub Sane : (Tree → List ℕ → List ℕ → Tree) → Type 0
Sane change =
    (i : ℕ) (f : Forest) (ms : List Message) (lo hi : List ℕ) (level : ℕ) → sound_tree (interior i f ms) lo hi ≡ true → tall (interior i f ms) level ≡ true
    → Mends (interior i f ms) (change (interior i f ms) lo hi) lo hi level

either-mends : (b : Bool) {t u v : Tree} {lo hi : List ℕ} {level : ℕ} → Mends t u lo hi level → Mends t v lo hi level → Mends t (cond b u v) lo hi level
either-mends true m n = m
either-mends false m n = n

-- Anywhere in the tree: the table of the whole stays, it is sound, of its height, and nodes at most go.
mutual
  unfolding altered altered_in Sane

  pub altered-mends : (t : Tree) (n : ℕ) (change : Tree → List ℕ → List ℕ → Tree) → Sane change → (lo hi : List ℕ) (level : ℕ)
      → sound_tree t lo hi ≡ true → tall t level ≡ true → Mends t (altered t n change lo hi) lo hi level
  altered-mends (unread i) n change law lo hi level e h = mends-refl (unread i) lo hi level e h
  altered-mends (leaf i rs) n change law lo hi level e h = mends-refl (leaf i rs) lo hi level e h
  altered-mends (interior i f ms) n change law lo hi level e h =
      either-mends (eqb n i) (law i f ms lo hi level e h)
      (mends-node i f (altered_in f n change (shared lo hi) hi) ms lo hi level e h
      (altered-mends-in f n change law (shared lo hi) lo hi (level - 1) (inner i f ms lo hi e).branches (tall-branches i f ms level h)))

  pub altered-mends-in : (f : Forest) (n : ℕ) (change : Tree → List ℕ → List ℕ → Tree) → Sane change → (lifted lo hi : List ℕ) (level : ℕ)
      → sound_forest f lifted lo hi ≡ true → tall_in f level ≡ true → MendsIn f (altered_in f n change lifted hi) lifted lo hi level
  altered-mends-in end n change law lifted lo hi level e h = mends-in-refl end lifted lo hi level e h
  altered-mends-in (tree s t f) n change law lifted lo hi level e h =
      mends-tree s t (altered t n change (lifted ++ s) (high_of lifted hi f)) f (altered_in f n change lifted hi) lifted lo hi level e
      (altered-mends t n change law (lifted ++ s) (high_of lifted hi f) level (parts s t f lifted lo hi e).first (tall-first s t f level h))
      (altered-mends-in f n change law lifted lo hi level (parts s t f lifted lo hi e).later (tall-later s t f level h))

-- the numbers of the children of node n
unfoldable mutual
  pub heads_at : Tree → ℕ → List ℕ
  heads_at (unread i) n = []
  heads_at (leaf i rs) n = []
  heads_at (interior i f ms) n = cond (eqb n i) (heads f) (heads_at_in f n)

  pub heads_at_in : Forest → ℕ → List ℕ
  heads_at_in end n = []
  heads_at_in (tree s t f) n = heads_at t n ++ heads_at_in f n

-- a change that keeps the nodes, the children of the changed node but for their high pivots
unfoldable pub Gentle : (ℕ → Bool) → (Tree → List ℕ → List ℕ → Tree) → Type 0
Gentle among change =
    (i : ℕ) (f : Forest) (ms : List Message) (lo hi : List ℕ) (level : ℕ) → sound_tree (interior i f ms) lo hi ≡ true → tall (interior i f ms) level ≡ true
    → ((j : ℕ) → is_in j (heads f) ≡ true → among j ≡ true)
    → Kept among (reachable (interior i f ms) level lo hi) (reachable (change (interior i f ms) lo hi) level lo hi)

pub either-kept : (among : ℕ → Bool) (b : Bool) (t u v : Tree) (hs ks : List ℕ) (lo hi : List ℕ) (level : ℕ)
    → (((j : ℕ) → is_in j hs ≡ true → among j ≡ true) → Kept among (reachable t level lo hi) (reachable u level lo hi))
    → (((j : ℕ) → is_in j ks ≡ true → among j ≡ true) → Kept among (reachable t level lo hi) (reachable v level lo hi))
    → ((j : ℕ) → is_in j (cond b hs ks) ≡ true → among j ≡ true)
    → Kept among (reachable t level lo hi) (reachable (cond b u v) level lo hi)
either-kept among true t u v hs ks lo hi level m n a = m a
either-kept among false t u v hs ks lo hi level m n a = n a

pub node_kept : (among : ℕ → Bool) (i : ℕ) (f g : Forest) (ms : List Message) (lo hi : List ℕ) (level : ℕ)
    → Kept among (reachable_in f (level - 1) (shared lo hi) hi) (reachable_in g (level - 1) (shared lo hi) hi)
    → Kept among (reachable (interior i f ms) level lo hi) (reachable (interior i g ms) level lo hi)
unfolding reachable
node_kept among i f g ms lo hi level k =
    Kept.keep (record { number = refl; level = refl; low = refl; messages = refl; high = inl refl }) k

pub tree-kept : (among : ℕ → Bool) (s : List ℕ) (t u : Tree) (f g : Forest) (lifted hi : List ℕ) (level : ℕ) → high_of lifted hi g ≡ high_of lifted hi f
    → Kept among (reachable t level (lifted ++ s) (high_of lifted hi f)) (reachable u level (lifted ++ s) (high_of lifted hi f))
    → Kept among (reachable_in f level lifted hi) (reachable_in g level lifted hi)
    → Kept among (reachable_in (tree s t f) level lifted hi) (reachable_in (tree s u g) level lifted hi)
unfolding reachable_in
tree-kept among s t u f g lifted hi level e k m = rw e (kept_append among k m)

mutual
  unfolding altered altered_in heads_at heads_at_in Gentle

  pub altered-kept : (t : Tree) (n : ℕ) (change : Tree → List ℕ → List ℕ → Tree) (among : ℕ → Bool) → Gentle among change → (lo hi : List ℕ) (level : ℕ)
      → sound_tree t lo hi ≡ true → tall t level ≡ true → ((j : ℕ) → is_in j (heads_at t n) ≡ true → among j ≡ true)
      → Kept among (reachable t level lo hi) (reachable (altered t n change lo hi) level lo hi)
  altered-kept (unread i) n change among law lo hi level e h a = kept_refl among (reachable (unread i) level lo hi)
  altered-kept (leaf i rs) n change among law lo hi level e h a = kept_refl among (reachable (leaf i rs) level lo hi)
  altered-kept (interior i f ms) n change among law lo hi level e h a =
      either-kept among (eqb n i) (interior i f ms) (change (interior i f ms) lo hi) (interior i (altered_in f n change (shared lo hi) hi) ms)
      (heads f) (heads_at_in f n) lo hi level
      (λ b. law i f ms lo hi level e h b)
      (λ b. node_kept among i f (altered_in f n change (shared lo hi) hi) ms lo hi level
      (altered-kept-in f n change among law (shared lo hi) lo hi (level - 1) (inner i f ms lo hi e).branches (tall-branches i f ms level h) b))
      a

  pub altered-kept-in : (f : Forest) (n : ℕ) (change : Tree → List ℕ → List ℕ → Tree) (among : ℕ → Bool) → Gentle among change
      → (lifted lo hi : List ℕ) (level : ℕ) → sound_forest f lifted lo hi ≡ true → tall_in f level ≡ true
      → ((j : ℕ) → is_in j (heads_at_in f n) ≡ true → among j ≡ true)
      → Kept among (reachable_in f level lifted hi) (reachable_in (altered_in f n change lifted hi) level lifted hi)
  altered-kept-in end n change among law lifted lo hi level e h a = kept_refl among (reachable_in end level lifted hi)
  altered-kept-in (tree s t f) n change among law lifted lo hi level e h a =
      tree-kept among s t (altered t n change (lifted ++ s) (high_of lifted hi f)) f (altered_in f n change lifted hi) lifted hi level
      (high-altered f n change lifted hi lifted hi)
      (altered-kept t n change among law (lifted ++ s) (high_of lifted hi f) level (parts s t f lifted lo hi e).first (tall-first s t f level h)
      (λ j b. a j (in_left j (heads_at t n) (heads_at_in f n) b)))
      (altered-kept-in f n change among law lifted lo hi level (parts s t f lifted lo hi e).later (tall-later s t f level h)
      (λ j b. a j (in_right j (heads_at t n) (heads_at_in f n) b)))

not-in-left : (j : ℕ) (is js : List ℕ) → is_in j (is ++ js) ≡ false → is_in j is ≡ false
not-in-left j is js e = refuted (λ f. not_so (in_left j is js f) e)

not-in-right : (j : ℕ) (is js : List ℕ) → is_in j (is ++ js) ≡ false → is_in j js ≡ false
not-in-right j is js e = refuted (λ f. not_so (in_right j is js f) e)

mutual
  unfolding altered altered_in numbers numbers_in is_in

  pub altered-absent : (t : Tree) (n : ℕ) (change : Tree → List ℕ → List ℕ → Tree) (lo hi : List ℕ) → is_in n (numbers t) ≡ false → altered t n change lo hi ≡ t
  altered-absent (unread i) n change lo hi e = refl
  altered-absent (leaf i rs) n change lo hi e = refl
  altered-absent (interior i f ms) n change lo hi e =
      rw (or-none-left (eqb n i) (is_in n (numbers_in f)) e)
      (ap (λ g. interior i g ms) (altered-absent-in f n change (shared lo hi) hi (or-none-right (eqb n i) (is_in n (numbers_in f)) e)))

  pub altered-absent-in : (f : Forest) (n : ℕ) (change : Tree → List ℕ → List ℕ → Tree) (lifted hi : List ℕ) → is_in n (numbers_in f) ≡ false → altered_in f n change lifted hi ≡ f
  altered-absent-in end n change lifted hi e = refl
  altered-absent-in (tree s t f) n change lifted hi e =
      ap₂ (λ a b. tree s a b)
      (altered-absent t n change (lifted ++ s) (high_of lifted hi f) (not-in-left n (numbers t) (numbers_in f) e))
      (altered-absent-in f n change lifted hi (not-in-right n (numbers t) (numbers_in f) e))

-- one change after another at one node is one change
unfoldable pub then_branches : (Forest → List ℕ → List ℕ → Forest) → (Forest → List ℕ → List ℕ → Forest) → Forest → List ℕ → List ℕ → Forest
then_branches c d f lifted hi = d (c f lifted hi) lifted hi

twice-choice : (b : Bool) (i n : ℕ) (f g h : Forest) (ms : List Message) (c d : Forest → List ℕ → List ℕ → Forest) (lo hi : List ℕ) → eqb n i ≡ b
    → altered_in g n (on_branches d) (shared lo hi) hi ≡ h
    → altered (cond b (on_branches c (interior i f ms) lo hi) (interior i g ms)) n (on_branches d) lo hi ≡ cond b (on_branches (then_branches c d) (interior i f ms) lo hi) (interior i h ms)
unfolding altered on_branches then_branches
twice-choice true i n f g h ms c d lo hi e k = rw e
twice-choice false i n f g h ms c d lo hi e k = rw e (ap (λ x. interior i x ms) k)

mutual
  unfolding altered altered_in

  pub altered-twice : (t : Tree) (n : ℕ) (c d : Forest → List ℕ → List ℕ → Forest) (lo hi : List ℕ)
      → altered (altered t n (on_branches c) lo hi) n (on_branches d) lo hi ≡ altered t n (on_branches (then_branches c d)) lo hi
  altered-twice (unread i) n c d lo hi = refl
  altered-twice (leaf i rs) n c d lo hi = refl
  altered-twice (interior i f ms) n c d lo hi =
      twice-choice (eqb n i) i n f (altered_in f n (on_branches c) (shared lo hi) hi) (altered_in f n (on_branches (then_branches c d)) (shared lo hi) hi) ms c d lo hi refl
      (altered-twice-in f n c d (shared lo hi) hi)

  pub altered-twice-in : (f : Forest) (n : ℕ) (c d : Forest → List ℕ → List ℕ → Forest) (lifted hi : List ℕ)
      → altered_in (altered_in f n (on_branches c) lifted hi) n (on_branches d) lifted hi ≡ altered_in f n (on_branches (then_branches c d)) lifted hi
  altered-twice-in end n c d lifted hi = refl
  altered-twice-in (tree s t f) n c d lifted hi =
      rw (high-altered f n (on_branches c) lifted hi lifted hi)
      (ap₂ (λ a b. tree s a b) (altered-twice t n c d (lifted ++ s) (high_of lifted hi f)) (altered-twice-in f n c d lifted hi))
