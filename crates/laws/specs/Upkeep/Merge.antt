-- Two neighbouring nodes as one: the left one's number, the entries rewritten for the joined range.
use Rattle.std.specs.Prelude.{ℕ, ◌-◌, ◌≡◌, refl, List, [], ◌∷◌, ◌++◌, Bool, true, false, ◌&&◌, not, length, drop, leb, eqb}
use Rattle.image.specs.Prelude.{sym, ap, ap₂, ◌∙◌, append_assoc, false≢true, inr}
use Rattle.image.specs.Bytes.{before, begins, shared}
use Rattle.image.specs.Path.{owns, well_formed, value_fits}
use Rattle.image.specs.Entry.{Message}
use Rattle.image.specs.Table.{Row, every_key, under_prefix, rising}
use Rattle.image.specs.Image.{Tree, unread, leaf, interior, Forest, end, tree}
use Rattle.image.specs.Meaning.{high_of, apply_all, rows, rows_in}
use Rattle.image.specs.Sound.{sound_tree, sound_forest, sound_messages, first_pivot, values_fit, numbers, numbers_in}
use Rattle.image.specs.Upkeep.{reachable, reachable_in, no_message}
use Rattle.octets.specs.Order.{and_left, and_right, not_so, not-false, same-eq, before-trans, begins-split, refuted}
use Rattle.laws.specs.Rising.{both}
use Rattle.laws.specs.Page.{number_of}
use Rattle.laws.specs.RowsRising.{rising-append, leaf-rises}
use Rattle.laws.specs.LookupTable.{parts, inner, leaf-owned, not_low, under-high, does-own}
use Rattle.laws.specs.Shift.{under-append}
use Rattle.laws.specs.Filter.{owned-begins, rising-under-eq, every_append, every-imp}
use Rattle.laws.specs.Upkeep.Sublists.{Sub, sub_refl, sub-append}
use Rattle.laws.specs.Upkeep.Kept.{Kept, kept_refl, kept_append}
use Rattle.laws.specs.Pieces.{messages-none}
use Rattle.laws.specs.ValuesFit.{fit_append, leaf-values}

-- pairs, and children, of a node that lifted `lifted`, in one that lifts `joined`
unfoldable pub rewritten : List ℕ → List ℕ → List Row → List Row
rewritten joined lifted [] = []
rewritten joined lifted (r ∷ rs) = record { key = drop (length joined) (lifted ++ r.key); value = r.value } ∷ rewritten joined lifted rs

unfoldable pub repointed : List ℕ → List ℕ → Forest → Forest
repointed joined lifted end = end
repointed joined lifted (tree s t f) = tree (drop (length joined) (lifted ++ s)) t (repointed joined lifted f)

-- the children of the first, then those of the second
unfoldable pub followed : Forest → Forest → Forest
followed end g = g
followed (tree s t f) g = tree s t (followed f g)

-- both leaves or both interior
unfoldable pub same_kind : Tree → Tree → Bool
same_kind (unread i) u = false
same_kind (leaf i rs) (unread j) = false
same_kind (leaf i rs) (leaf j qs) = true
same_kind (leaf i rs) (interior j g ns) = false
same_kind (interior i f ms) (unread j) = false
same_kind (interior i f ms) (leaf j qs) = false
same_kind (interior i f ms) (interior j g ns) = true

-- Two neighbours of one kind with the pivots lo, mid, hi, that hold no message, as one node.
unfoldable pub merged : Tree → Tree → List ℕ → List ℕ → List ℕ → Tree
merged (unread i) u lo mid hi = unread i
merged (leaf i rs) (unread j) lo mid hi = leaf i rs
merged (leaf i rs) (leaf j qs) lo mid hi =
    leaf i (rewritten (shared lo hi) (shared lo mid) rs ++ rewritten (shared lo hi) (shared mid hi) qs)
merged (leaf i rs) (interior j g ns) lo mid hi = leaf i rs
merged (interior i f ms) (unread j) lo mid hi = interior i f ms
merged (interior i f ms) (leaf j qs) lo mid hi = interior i f ms
merged (interior i f ms) (interior j g ns) lo mid hi =
    interior i (followed (repointed (shared lo hi) (shared lo mid) f) (repointed (shared lo hi) (shared mid hi) g)) []

-- the tree of a node of this level: leaves are of level 1, and each child is one level under its parent
unfoldable mutual
  pub tall : Tree → ℕ → Bool
  tall (unread i) level = false
  tall (leaf i rs) level = eqb level 1
  tall (interior i f ms) level = leb 2 level && tall_in f (level - 1)

  pub tall_in : Forest → ℕ → Bool
  tall_in end level = true
  tall_in (tree s t f) level = tall t level && tall_in f level

-- a part of a range is owned by the whole
pub owns-left : (lo mid hi p : List ℕ) → before mid hi ≡ true → owns lo mid p ≡ true → owns lo hi p ≡ true
owns-left lo mid hi p b o = does-own lo hi p (not_low lo mid p o) (before-trans p mid hi (under-high lo mid p o) b)

pub owns-right : (lo mid hi p : List ℕ) → before lo mid ≡ true → owns mid hi p ≡ true → owns lo hi p ≡ true
owns-right lo mid hi p b o = does-own lo hi p (refuted (λ c. not_so (before-trans p lo mid c b) (not_low mid hi p o))) (under-high mid hi p o)

pub under-rewritten : (J L : List ℕ) (rs : List Row) → every_key (λ k. begins J k) (under_prefix L rs) ≡ true
    → under_prefix J (rewritten J L rs) ≡ under_prefix L rs
unfolding rewritten under_prefix every_key
under-rewritten J L [] e = refl
under-rewritten J L (r ∷ rs) e =
    rw (begins-split J (L ++ r.key) (and_left _ _ e))
    (ap (λ l. record { key = L ++ r.key; value = r.value } ∷ l) (under-rewritten J L rs (and_right (begins J (L ++ r.key)) _ e)))

pub values-rewritten : (J L : List ℕ) (rs : List Row) → values_fit (rewritten J L rs) ≡ values_fit rs
unfolding rewritten values_fit
values-rewritten J L [] = refl
values-rewritten J L (r ∷ rs) = ap (λ b. value_fits r.value && b) (values-rewritten J L rs)

-- LEAVES
module _ (i j : ℕ) (rs qs : List Row) (lo mid hi : List ℕ) (a : before lo mid ≡ true) (b : before mid hi ≡ true)
    (e : sound_tree (leaf i rs) lo mid ≡ true) (f : sound_tree (leaf j qs) mid hi ≡ true) where
  left-owned : every_key (owns lo hi) (under_prefix (shared lo mid) rs) ≡ true
  left-owned = every-imp (owns lo mid) (owns lo hi) (under_prefix (shared lo mid) rs) (λ k o. owns-left lo mid hi k b o) (leaf-owned i rs lo mid e)

  right-owned : every_key (owns lo hi) (under_prefix (shared mid hi) qs) ≡ true
  right-owned = every-imp (owns mid hi) (owns lo hi) (under_prefix (shared mid hi) qs) (λ k o. owns-right lo mid hi k a o) (leaf-owned j qs mid hi f)

  -- the pairs of both with their full paths
  pub leaves-rows : under_prefix (shared lo hi) (rewritten (shared lo hi) (shared lo mid) rs ++ rewritten (shared lo hi) (shared mid hi) qs)
      ≡ under_prefix (shared lo mid) rs ++ under_prefix (shared mid hi) qs
  leaves-rows =
      sym (under-append (shared lo hi) (rewritten (shared lo hi) (shared lo mid) rs) (rewritten (shared lo hi) (shared mid hi) qs))
      ∙ ap₂ (λ x y. x ++ y)
      (under-rewritten (shared lo hi) (shared lo mid) rs
      (every-imp (owns lo hi) (λ k. begins (shared lo hi) k) (under_prefix (shared lo mid) rs) (λ k o. owned-begins lo hi k o) left-owned))
      (under-rewritten (shared lo hi) (shared mid hi) qs
      (every-imp (owns lo hi) (λ k. begins (shared lo hi) k) (under_prefix (shared mid hi) qs) (λ k o. owned-begins lo hi k o) right-owned))

  leaves-formed : every_key well_formed (under_prefix (shared lo mid) rs ++ under_prefix (shared mid hi) qs) ≡ true
  unfolding sound_tree
  leaves-formed =
      every_append well_formed (under_prefix (shared lo mid) rs) (under_prefix (shared mid hi) qs)
      (and_left _ _ (and_left _ _ (and_left _ _ e))) (and_left _ _ (and_left _ _ (and_left _ _ f)))

  leaves-rise : rising (under_prefix (shared lo mid) rs ++ under_prefix (shared mid hi) qs) ≡ true
  leaves-rise =
      rising-append mid (under_prefix (shared lo mid) rs) (under_prefix (shared mid hi) qs)
      (rising-under-eq (shared lo mid) rs ∙ leaf-rises i rs lo mid e)
      (rising-under-eq (shared mid hi) qs ∙ leaf-rises j qs mid hi f)
      (every-imp (owns lo mid) (λ q. before q mid) (under_prefix (shared lo mid) rs) (λ k o. under-high lo mid k o) (leaf-owned i rs lo mid e))
      (every-imp (owns mid hi) (λ q. not (before q mid)) (under_prefix (shared mid hi) qs) (λ k o. not-false (before k mid) (not_low mid hi k o)) (leaf-owned j qs mid hi f))

  pub leaves-sound : sound_tree (merged (leaf i rs) (leaf j qs) lo mid hi) lo hi ≡ true
  unfolding sound_tree merged
  leaves-sound =
      let new : List Row = rewritten (shared lo hi) (shared lo mid) rs ++ rewritten (shared lo hi) (shared mid hi) qs in
      let formed : every_key well_formed (under_prefix (shared lo hi) new) ≡ true = rw leaves-rows leaves-formed in
      let owned : every_key (owns lo hi) (under_prefix (shared lo hi) new) ≡ true =
      rw leaves-rows (every_append (owns lo hi) (under_prefix (shared lo mid) rs) (under_prefix (shared mid hi) qs) left-owned right-owned) in
      let rise : rising new ≡ true = sym (rising-under-eq (shared lo hi) new) ∙ (rw leaves-rows leaves-rise) in
      let fit : values_fit new ≡ true =
      fit_append (rewritten (shared lo hi) (shared lo mid) rs) (rewritten (shared lo hi) (shared mid hi) qs)
      (values-rewritten (shared lo hi) (shared lo mid) rs ∙ leaf-values i rs lo mid e)
      (values-rewritten (shared lo hi) (shared mid hi) qs ∙ leaf-values j qs mid hi f) in
      both (both (both formed owned) rise) fit

-- CHILDREN, in a node that lifts J instead of L
module _ (J L lo hi : List ℕ) (under : (p : List ℕ) → owns lo hi p ≡ true → begins J p ≡ true) where
  point : (p : List ℕ) → owns lo hi p ≡ true → J ++ drop (length J) p ≡ p
  point p o = begins-split J p (under p o)

  pub high-repointed : (f : Forest) (h : List ℕ) → sound_forest f L lo hi ≡ true → high_of J h (repointed J L f) ≡ high_of L h f
  unfolding repointed high_of
  high-repointed end h e = refl
  high-repointed (tree s t f) h e = point (L ++ s) (parts s t f L lo hi e).owned

  pub rows-repointed : (f : Forest) → sound_forest f L lo hi ≡ true → rows_in (repointed J L f) J hi ≡ rows_in f L hi
  unfolding repointed rows_in
  rows-repointed end e = refl
  rows-repointed (tree s t f) e =
      rw (point (L ++ s) (parts s t f L lo hi e).owned, high-repointed f hi (parts s t f L lo hi e).later)
      (ap (λ r. rows t (L ++ s) (high_of L hi f) ++ r) (rows-repointed f (parts s t f L lo hi e).later))

  pub places-repointed : (f : Forest) (level : ℕ) → sound_forest f L lo hi ≡ true → reachable_in (repointed J L f) level J hi ≡ reachable_in f level L hi
  unfolding repointed reachable_in
  places-repointed end level e = refl
  places-repointed (tree s t f) level e =
      rw (point (L ++ s) (parts s t f L lo hi e).owned, high-repointed f hi (parts s t f L lo hi e).later)
      (ap (λ r. reachable t level (L ++ s) (high_of L hi f) ++ r) (places-repointed f level (parts s t f L lo hi e).later))

  pub sound-repointed : (f : Forest) → sound_forest f L lo hi ≡ true → sound_forest (repointed J L f) J lo hi ≡ true
  unfolding repointed sound_forest
  sound-repointed end e = refl
  sound-repointed (tree s t f) e =
      rw (point (L ++ s) (parts s t f L lo hi e).owned, high-repointed f hi (parts s t f L lo hi e).later)
      (both (both (both (parts s t f L lo hi e).owned (parts s t f L lo hi e).rises) (parts s t f L lo hi e).first)
      (sound-repointed f (parts s t f L lo hi e).later))

pub numbers-repointed : (J L : List ℕ) (f : Forest) → numbers_in (repointed J L f) ≡ numbers_in f
unfolding repointed numbers_in
numbers-repointed J L end = refl
numbers-repointed J L (tree s t f) = ap (λ r. numbers t ++ r) (numbers-repointed J L f)

pub tall-repointed : (J L : List ℕ) (f : Forest) (level : ℕ) → tall_in (repointed J L f) level ≡ tall_in f level
unfolding repointed tall_in
tall-repointed J L end level = refl
tall-repointed J L (tree s t f) level = ap (λ r. tall t level && r) (tall-repointed J L f level)

-- children after children
pub high-followed : (l h : List ℕ) (f g : Forest) → high_of l h (followed f g) ≡ high_of l (high_of l h g) f
unfolding followed high_of
high-followed l h end g = refl
high-followed l h (tree s t f) g = refl

pub rows-followed : (l h : List ℕ) (f g : Forest) → rows_in (followed f g) l h ≡ rows_in f l (high_of l h g) ++ rows_in g l h
unfolding followed rows_in
rows-followed l h end g = refl
rows-followed l h (tree s t f) g =
    rw (high-followed l h f g)
    (ap (λ r. rows t (l ++ s) (high_of l (high_of l h g) f) ++ r) (rows-followed l h f g)
    ∙ sym (append_assoc (rows t (l ++ s) (high_of l (high_of l h g) f)) (rows_in f l (high_of l h g)) (rows_in g l h)))

pub places-followed : (l h : List ℕ) (f g : Forest) (level : ℕ) → reachable_in (followed f g) level l h ≡ reachable_in f level l (high_of l h g) ++ reachable_in g level l h
unfolding followed reachable_in
places-followed l h end g level = refl
places-followed l h (tree s t f) g level =
    rw (high-followed l h f g)
    (ap (λ r. reachable t level (l ++ s) (high_of l (high_of l h g) f) ++ r) (places-followed l h f g level)
    ∙ sym (append_assoc (reachable t level (l ++ s) (high_of l (high_of l h g) f)) (reachable_in f level l (high_of l h g)) (reachable_in g level l h)))

pub numbers-followed : (f g : Forest) → numbers_in (followed f g) ≡ numbers_in f ++ numbers_in g
unfolding followed numbers_in
numbers-followed end g = refl
numbers-followed (tree s t f) g = ap (λ r. numbers t ++ r) (numbers-followed f g) ∙ sym (append_assoc (numbers t) (numbers_in f) (numbers_in g))

pub tall-followed : (f g : Forest) (level : ℕ) → tall_in f level ≡ true → tall_in g level ≡ true → tall_in (followed f g) level ≡ true
unfolding followed tall_in
tall-followed end g level e k = k
tall-followed (tree s t f) g level e k = both (and_left (tall t level) _ e) (tall-followed f g level (and_right (tall t level) _ e) k)

-- children of a wider range
pub sound-wider : (f : Forest) (l lo mid hi : List ℕ) → before lo mid ≡ true → sound_forest f l mid hi ≡ true → sound_forest f l lo hi ≡ true
unfolding sound_forest
sound-wider end l lo mid hi b e = refl
sound-wider (tree s t f) l lo mid hi b e =
    both (both (both (owns-right lo mid hi (l ++ s) b (parts s t f l mid hi e).owned) (parts s t f l mid hi e).rises) (parts s t f l mid hi e).first)
    (sound-wider f l lo mid hi b (parts s t f l mid hi e).later)

pub sound-followed : (f g : Forest) (l lo mid hi : List ℕ) → before lo mid ≡ true → before mid hi ≡ true → high_of l hi g ≡ mid
    → sound_forest f l lo mid ≡ true → sound_forest g l mid hi ≡ true → sound_forest (followed f g) l lo hi ≡ true
unfolding followed sound_forest
sound-followed end g l lo mid hi a b h e k = sound-wider g l lo mid hi a k
sound-followed (tree s t f) g l lo mid hi a b h e k =
    rw (high-followed l hi f g, h)
    (both (both (both (owns-left lo mid hi (l ++ s) b (parts s t f l lo mid e).owned) (parts s t f l lo mid e).rises) (parts s t f l lo mid e).first)
    (sound-followed f g l lo mid hi a b h (parts s t f l lo mid e).later k))

-- the first pivot
pub first-high : (f : Forest) (l lo h : List ℕ) → first_pivot l lo f ≡ true → high_of l h f ≡ lo
unfolding first_pivot high_of
first-high end l lo h e = absurd (false≢true e)
first-high (tree s t f) l lo h e = same-eq (l ++ s) lo e

pub first-followed : (f g : Forest) (l lo : List ℕ) → first_pivot l lo f ≡ true → first_pivot l lo (followed f g) ≡ true
unfolding first_pivot followed
first-followed end g l lo e = absurd (false≢true e)
first-followed (tree s t f) g l lo e = e

pub first-repointed : (J L lo hi : List ℕ) → ((p : List ℕ) → owns lo hi p ≡ true → begins J p ≡ true)
    → (f : Forest) → sound_forest f L lo hi ≡ true → first_pivot L lo f ≡ true → first_pivot J lo (repointed J L f) ≡ true
unfolding first_pivot repointed
first-repointed J L lo hi under end e k = absurd (false≢true k)
first-repointed J L lo hi under (tree s t f) e k = rw (begins-split J (L ++ s) (under (L ++ s) (parts s t f L lo hi e).owned)) k

-- a node's parts, with its first pivot
pub first_of : (i : ℕ) (f : Forest) (ms : List Message) (lo hi : List ℕ) → sound_tree (interior i f ms) lo hi ≡ true → first_pivot (shared lo hi) lo f ≡ true
unfolding sound_tree
first_of i f ms lo hi e = and_left _ _ (and_left _ _ e)

pub inner-sound : (i : ℕ) (f : Forest) (ms : List Message) (lo hi : List ℕ) → first_pivot (shared lo hi) lo f ≡ true
    → sound_forest f (shared lo hi) lo hi ≡ true → sound_messages lo hi ms ≡ true → sound_tree (interior i f ms) lo hi ≡ true
unfolding sound_tree
inner-sound i f ms lo hi a b c = both (both a b) c

-- INTERIOR NODES
module _ (i j : ℕ) (f g : Forest) (lo mid hi : List ℕ) (a : before lo mid ≡ true) (b : before mid hi ≡ true)
    (e : sound_tree (interior i f []) lo mid ≡ true) (k : sound_tree (interior j g []) mid hi ≡ true) where
  left-begins : (p : List ℕ) → owns lo mid p ≡ true → begins (shared lo hi) p ≡ true
  left-begins p o = owned-begins lo hi p (owns-left lo mid hi p b o)

  right-begins : (p : List ℕ) → owns mid hi p ≡ true → begins (shared lo hi) p ≡ true
  right-begins p o = owned-begins lo hi p (owns-right lo mid hi p a o)

  -- the right one's children begin at mid
  seam : high_of (shared lo hi) hi (repointed (shared lo hi) (shared mid hi) g) ≡ mid
  seam =
      high-repointed (shared lo hi) (shared mid hi) mid hi right-begins g hi (inner j g [] mid hi k).branches
      ∙ first-high g (shared mid hi) mid hi (first_of j g [] mid hi k)

  pub inners-rows : rows_in (followed (repointed (shared lo hi) (shared lo mid) f) (repointed (shared lo hi) (shared mid hi) g)) (shared lo hi) hi
      ≡ rows_in f (shared lo mid) mid ++ rows_in g (shared mid hi) hi
  inners-rows =
      rows-followed (shared lo hi) hi (repointed (shared lo hi) (shared lo mid) f) (repointed (shared lo hi) (shared mid hi) g)
      ∙ ap (λ h. rows_in (repointed (shared lo hi) (shared lo mid) f) (shared lo hi) h ++ rows_in (repointed (shared lo hi) (shared mid hi) g) (shared lo hi) hi) seam
      ∙ ap₂ (λ x y. x ++ y)
      (rows-repointed (shared lo hi) (shared lo mid) lo mid left-begins f (inner i f [] lo mid e).branches)
      (rows-repointed (shared lo hi) (shared mid hi) mid hi right-begins g (inner j g [] mid hi k).branches)

  pub inners-places : (level : ℕ)
      → reachable_in (followed (repointed (shared lo hi) (shared lo mid) f) (repointed (shared lo hi) (shared mid hi) g)) level (shared lo hi) hi
      ≡ reachable_in f level (shared lo mid) mid ++ reachable_in g level (shared mid hi) hi
  inners-places level =
      places-followed (shared lo hi) hi (repointed (shared lo hi) (shared lo mid) f) (repointed (shared lo hi) (shared mid hi) g) level
      ∙ ap (λ h. reachable_in (repointed (shared lo hi) (shared lo mid) f) level (shared lo hi) h ++ reachable_in (repointed (shared lo hi) (shared mid hi) g) level (shared lo hi) hi) seam
      ∙ ap₂ (λ x y. x ++ y)
      (places-repointed (shared lo hi) (shared lo mid) lo mid left-begins f level (inner i f [] lo mid e).branches)
      (places-repointed (shared lo hi) (shared mid hi) mid hi right-begins g level (inner j g [] mid hi k).branches)

  pub inners-sound : sound_tree (merged (interior i f []) (interior j g []) lo mid hi) lo hi ≡ true
  unfolding merged
  inners-sound =
      inner-sound i (followed (repointed (shared lo hi) (shared lo mid) f) (repointed (shared lo hi) (shared mid hi) g)) [] lo hi
      (first-followed (repointed (shared lo hi) (shared lo mid) f) (repointed (shared lo hi) (shared mid hi) g) (shared lo hi) lo
      (first-repointed (shared lo hi) (shared lo mid) lo mid left-begins f (inner i f [] lo mid e).branches (first_of i f [] lo mid e)))
      (sound-followed (repointed (shared lo hi) (shared lo mid) f) (repointed (shared lo hi) (shared mid hi) g) (shared lo hi) lo mid hi a b seam
      (sound-repointed (shared lo hi) (shared lo mid) lo mid left-begins f (inner i f [] lo mid e).branches)
      (sound-repointed (shared lo hi) (shared mid hi) mid hi right-begins g (inner j g [] mid hi k).branches))
      (messages-none lo hi)

-- EITHER KIND
pub data Pair : Tree → Tree → Type 0 where
  leaves : (i j : ℕ) (rs qs : List Row) → Pair (leaf i rs) (leaf j qs)
  inners : (i j : ℕ) (f g : Forest) → Pair (interior i f []) (interior j g [])

pub pair_of : (t u : Tree) → same_kind t u ≡ true → no_message t ≡ true → no_message u ≡ true → Pair t u
unfolding same_kind no_message
pair_of (unread i) u a b c = absurd (false≢true a)
pair_of (leaf i rs) (unread j) a b c = absurd (false≢true a)
pair_of (leaf i rs) (leaf j qs) a b c = leaves i j rs qs
pair_of (leaf i rs) (interior j g ns) a b c = absurd (false≢true a)
pair_of (interior i f ms) (unread j) a b c = absurd (false≢true a)
pair_of (interior i f ms) (leaf j qs) a b c = absurd (false≢true a)
pair_of (interior i f []) (interior j g []) a b c = inners i j f g
pair_of (interior i f []) (interior j g (n ∷ ns)) a b c = absurd (false≢true c)
pair_of (interior i f (m ∷ ms)) (interior j g ns) a b c = absurd (false≢true b)

-- The rows of both, in order.
pub merged-rows : {t u : Tree} → Pair t u → (lo mid hi : List ℕ) → before lo mid ≡ true → before mid hi ≡ true
    → sound_tree t lo mid ≡ true → sound_tree u mid hi ≡ true → rows (merged t u lo mid hi) lo hi ≡ rows t lo mid ++ rows u mid hi
unfolding merged rows apply_all
merged-rows (leaves i j rs qs) lo mid hi a b e k = leaves-rows i j rs qs lo mid hi a b e k
merged-rows (inners i j f g) lo mid hi a b e k = inners-rows i j f g lo mid hi a b e k

pub merged-tall : {t u : Tree} → Pair t u → (lo mid hi : List ℕ) (level : ℕ) → tall t level ≡ true → tall u level ≡ true
    → tall (merged t u lo mid hi) level ≡ true
unfolding merged tall
merged-tall (leaves i j rs qs) lo mid hi level e k = e
merged-tall (inners i j f g) lo mid hi level e k =
    both (and_left (leb 2 level) _ e)
    (tall-followed (repointed (shared lo hi) (shared lo mid) f) (repointed (shared lo hi) (shared mid hi) g) (level - 1)
    (tall-repointed (shared lo hi) (shared lo mid) f (level - 1) ∙ and_right (leb 2 level) _ e)
    (tall-repointed (shared lo hi) (shared mid hi) g (level - 1) ∙ and_right (leb 2 level) _ k))

-- the left one's number, and the nodes under both
pub merged-number : {t u : Tree} → Pair t u → (lo mid hi : List ℕ) → number_of (merged t u lo mid hi) ≡ number_of t
unfolding merged number_of
merged-number (leaves i j rs qs) lo mid hi = refl
merged-number (inners i j f g) lo mid hi = refl

pub merged-numbers : {t u : Tree} → Pair t u → (lo mid hi : List ℕ) → Sub (numbers (merged t u lo mid hi)) (numbers t ++ numbers u)
unfolding merged numbers
merged-numbers (leaves i j rs qs) lo mid hi = Sub.keep (Sub.gone Sub.empty)
merged-numbers (inners i j f g) lo mid hi =
    let under : Sub (numbers_in (followed (repointed (shared lo hi) (shared lo mid) f) (repointed (shared lo hi) (shared mid hi) g))) (numbers_in f ++ j ∷ numbers_in g) =
    rw (
      numbers-followed (repointed (shared lo hi) (shared lo mid) f) (repointed (shared lo hi) (shared mid hi) g),
      numbers-repointed (shared lo hi) (shared lo mid) f,
      numbers-repointed (shared lo hi) (shared mid hi) g,
    )
    (sub-append (sub_refl (numbers_in f)) (Sub.gone (sub_refl (numbers_in g)))) in
    Sub.keep under

-- the nodes under both keep their pivots and messages; the joined one keeps all but its high pivot
pub merged-kept : (among : ℕ → Bool) {t u : Tree} → Pair t u → (lo mid hi : List ℕ) (level : ℕ) → before lo mid ≡ true → before mid hi ≡ true
    → sound_tree t lo mid ≡ true → sound_tree u mid hi ≡ true → among (number_of t) ≡ true
    → Kept among (reachable t level lo mid ++ reachable u level mid hi) (reachable (merged t u lo mid hi) level lo hi)
unfolding merged reachable number_of
merged-kept among (leaves i j rs qs) lo mid hi level a b e k h =
    Kept.keep (record { number = refl; level = refl; low = refl; messages = refl; high = inr (refl, h) }) (Kept.gone Kept.empty)
merged-kept among (inners i j f g) lo mid hi level a b e k h =
    let under : Kept among (reachable_in f (level - 1) (shared lo mid) mid ++ reachable (interior j g []) level mid hi)
    (reachable_in (followed (repointed (shared lo hi) (shared lo mid) f) (repointed (shared lo hi) (shared mid hi) g)) (level - 1) (shared lo hi) hi) =
    rw (inners-places i j f g lo mid hi a b e k (level - 1))
    (kept_append among (kept_refl among (reachable_in f (level - 1) (shared lo mid) mid)) (Kept.gone (kept_refl among (reachable_in g (level - 1) (shared mid hi) hi)))) in
    Kept.keep (record { number = refl; level = refl; low = refl; messages = refl; high = inr (refl, h) }) under
