-- A flush by one level meets document 01's rule: its messages go down, and no reachable node of the flushed node's level that owns any of what it
-- owned holds a message.
use Rattle.std.specs.Prelude.{ℕ, ◌-◌, ◌≤◌, ◌<◌, ◌≡◌, refl, List, [], ◌∷◌, ◌++◌, Bool, true, false, ◌&&◌, ◌||◌, not, cond, leb, eqb}
use Rattle.image.specs.Prelude.{sym, ap, subst, ◌∙◌, Option, none, some, Option·some-injective, arith, ne_eqb, eqb-true, le-leb, lt-leb, leb-true, cases}
use Rattle.image.specs.Bytes.{before, shared}
use Rattle.image.specs.Entry.{Message}
use Rattle.image.specs.Table.{Row}
use Rattle.image.specs.Image.{Tree, unread, leaf, interior, Forest, end, tree}
use Rattle.image.specs.Meaning.{high_of}
use Rattle.image.specs.Sound.{sound_tree, sound_forest, numbers, once}
use Rattle.image.specs.Upkeep.{Reachable, reachable, reachable_in, reachable_at, every, holds_no_message, overlap, gains_no_message, from_level, emptied, none_waits, flushed}
use Rattle.octets.specs.Order.{and_left, and_right, and-false, not_so, not-true, before-irrefl, before-le, refuted, before-asym as lt_not}
use Rattle.laws.specs.Rising.{both}
use Rattle.laws.specs.Frame.{or_left, or_right}
use Rattle.laws.specs.LookupTable.{parts, inner, high-under}
use Rattle.laws.specs.Upkeep.Kept.{numbers_of, numbers-places, NoGain, no-gain-append, gains-none-same, gains-none-empty, no-gain, is_level, one-level}
use Rattle.laws.specs.Upkeep.Merge.{tall, tall_in, first-high, first_of}
use Rattle.laws.specs.Upkeep.Mends.{tall-branches, tall-first, tall-later}
use Rattle.laws.specs.Upkeep.Alter.{altered, altered_in, high-altered, altered-mends, altered-mends-in}
use Rattle.laws.specs.Upkeep.Healed.{or_else, place-append, place-number, place-test}
use Rattle.laws.specs.Upkeep.Flush.{pushed_all, flushed_node, flush-sane, flushed_tree}
use Rattle.laws.specs.LiveCount.{every-both}

every-weaker : (a b : Reachable → Bool) (xs : List Reachable) → ((y : Reachable) → a y ≡ true → b y ≡ true) → every a xs ≡ true → every b xs ≡ true
unfolding every
every-weaker a b [] h e = refl
every-weaker a b (x ∷ xs) h e = both (h x (and_left (a x) _ e)) (every-weaker a b xs h (and_right (a x) _ e))

-- LEVELS: the nodes of a tree are of its level or under it
mutual
  unfolding reachable reachable_in every

  pub places-under : (t : Tree) (level : ℕ) (lo hi : List ℕ) → every (λ y. leb y.level level) (reachable t level lo hi) ≡ true
  places-under (unread i) level lo hi = refl
  places-under (leaf i rs) level lo hi = both (le-leb level level (omega arith)) refl
  places-under (interior i f ms) level lo hi =
      both (le-leb level level (omega arith))
      (every-weaker (λ y. leb y.level (level - 1)) (λ y. leb y.level level) (reachable_in f (level - 1) (shared lo hi) hi)
      (λ y h. le-leb y.level level (omega (arith, leb-true y.level (level - 1) h))) (places-under-in f (level - 1) (shared lo hi) hi))

  pub places-under-in : (f : Forest) (level : ℕ) (lifted hi : List ℕ) → every (λ y. leb y.level level) (reachable_in f level lifted hi) ≡ true
  places-under-in end level lifted hi = refl
  places-under-in (tree s t f) level lifted hi =
      every-both (λ y. leb y.level level) (reachable t level (lifted ++ s) (high_of lifted hi f)) (reachable_in f level lifted hi)
      (places-under t level (lifted ++ s) (high_of lifted hi f)) (places-under-in f level lifted hi)

-- RANGES: the nodes of a sound tree lie in its range
unfoldable pub within : List ℕ → List ℕ → Reachable → Bool
within lo hi y = not (before y.low lo) && not (before hi y.high)

itself : (i level : ℕ) (lo hi : List ℕ) (ms : List Message) (f : Forest)
    → within lo hi (record { number = i; level = level; low = lo; high = hi; messages = ms; children = f }) ≡ true
unfolding within
itself i level lo hi ms f = rw (before-irrefl lo, before-irrefl hi)

within_low : (lo hi : List ℕ) (y : Reachable) → within lo hi y ≡ true → before y.low lo ≡ false
unfolding within
within_low lo hi y e = not-true (before y.low lo) (and_left _ _ e)

within-high : (lo hi : List ℕ) (y : Reachable) → within lo hi y ≡ true → before hi y.high ≡ false
unfolding within
within-high lo hi y e = not-true (before hi y.high) (and_right (not (before y.low lo)) _ e)

is_within : (lo hi : List ℕ) (y : Reachable) → before y.low lo ≡ false → before hi y.high ≡ false → within lo hi y ≡ true
unfolding within
is_within lo hi y a b = rw (a, b)

-- a ≤ b, b ≤ c: a ≤ c, each told as "not the other way"
le-le : (a b c : List ℕ) → before b a ≡ false → before c b ≡ false → before c a ≡ false
le-le a b c e f = refuted (λ g. not_so (before-le c a b g e) f)

high-low : (f : Forest) (lifted lo hi : List ℕ) → sound_forest f lifted lo hi ≡ true → before hi (high_of lifted hi f) ≡ false
high-low f lifted lo hi e = refuted (λ g. not_so (high-under f lifted lo hi hi e g) (before-irrefl hi))

within-branches : (i : ℕ) (f : Forest) (ms : List Message) (lo hi : List ℕ) (xs : List Reachable) → sound_tree (interior i f ms) lo hi ≡ true
    → every (within (high_of (shared lo hi) hi f) hi) xs ≡ true → every (within lo hi) xs ≡ true
within-branches i f ms lo hi xs e k = subst (λ l. every (within l hi) xs ≡ true) (first-high f (shared lo hi) lo hi (first_of i f ms lo hi e)) k

within-tree : (s : List ℕ) (t : Tree) (f : Forest) (lifted lo hi : List ℕ) (xs ys : List Reachable) → sound_forest (tree s t f) lifted lo hi ≡ true
    → every (within (lifted ++ s) (high_of lifted hi f)) xs ≡ true → every (within (high_of lifted hi f) hi) ys ≡ true
    → every (within (high_of lifted hi (tree s t f)) hi) (xs ++ ys) ≡ true
unfolding high_of
within-tree s t f lifted lo hi xs ys e a b =
    every-both (within (lifted ++ s) hi) xs ys
    (every-weaker (within (lifted ++ s) (high_of lifted hi f)) (within (lifted ++ s) hi) xs
    (λ y h. is_within (lifted ++ s) hi y (within_low (lifted ++ s) (high_of lifted hi f) y h)
    (le-le y.high (high_of lifted hi f) hi (within-high (lifted ++ s) (high_of lifted hi f) y h) (high-low f lifted lo hi (parts s t f lifted lo hi e).later))) a)
    (every-weaker (within (high_of lifted hi f) hi) (within (lifted ++ s) hi) ys
    (λ y h. is_within (lifted ++ s) hi y
    (le-le (lifted ++ s) (high_of lifted hi f) y.low (lt_not (lifted ++ s) (high_of lifted hi f) (parts s t f lifted lo hi e).rises) (within_low (high_of lifted hi f) hi y h))
    (within-high (high_of lifted hi f) hi y h)) b)

mutual
  unfolding reachable reachable_in every

  pub places-within : (t : Tree) (level : ℕ) (lo hi : List ℕ) → sound_tree t lo hi ≡ true → every (within lo hi) (reachable t level lo hi) ≡ true
  places-within (unread i) level lo hi e = refl
  places-within (leaf i rs) level lo hi e = both (itself i level lo hi [] end) refl
  places-within (interior i f ms) level lo hi e =
      both (itself i level lo hi ms f)
      (within-branches i f ms lo hi (reachable_in f (level - 1) (shared lo hi) hi) e (places-within-in f (level - 1) (shared lo hi) lo hi (inner i f ms lo hi e).branches))

  pub places-within-in : (f : Forest) (level : ℕ) (lifted lo hi : List ℕ) → sound_forest f lifted lo hi ≡ true
      → every (within (high_of lifted hi f) hi) (reachable_in f level lifted hi) ≡ true
  places-within-in end level lifted lo hi e = refl
  places-within-in (tree s t f) level lifted lo hi e =
      within-tree s t f lifted lo hi (reachable t level (lifted ++ s) (high_of lifted hi f)) (reachable_in f level lifted hi) e
      (places-within t level (lifted ++ s) (high_of lifted hi f) (parts s t f lifted lo hi e).first)
      (places-within-in f level lifted lo hi (parts s t f lifted lo hi e).later)

-- THE RULE, node by node
unfoldable pub rested : Reachable → Reachable → Bool
rested x y = not (eqb y.level x.level && overlap x y) || holds_no_message y

rested-quiet : (x y : Reachable) → holds_no_message y ≡ true → rested x y ≡ true
unfolding rested
rested-quiet x y e = or_right (not (eqb y.level x.level && overlap x y)) (holds_no_message y) e

rested-level : (x y : Reachable) → (y.level ≡ x.level → ⊥) → rested x y ≡ true
unfolding rested
rested-level x y n = rw (ne_eqb y.level x.level n)

not-and : (a b : Bool) → b ≡ false → not (a && b) ≡ true
not-and true b e = rw e
not-and false b e = refl

rested-after : (x y : Reachable) → before y.low x.high ≡ false → rested x y ≡ true
unfolding rested overlap
rested-after x y e =
    or_left (not (eqb y.level x.level && (before x.low y.high && before y.low x.high))) (holds_no_message y)
    (not-and (eqb y.level x.level) (before x.low y.high && before y.low x.high) (rw e (and-false (before x.low y.high))))

rested-before : (x y : Reachable) → before x.low y.high ≡ false → rested x y ≡ true
unfolding rested overlap
rested-before x y e =
    or_left (not (eqb y.level x.level && (before x.low y.high && before y.low x.high))) (holds_no_message y)
    (not-and (eqb y.level x.level) (before x.low y.high && before y.low x.high) (rw e))

leaf-rested : (x : Reachable) (i : ℕ) (rs : List Row) (level : ℕ) (lo hi : List ℕ) → every (rested x) (reachable (leaf i rs) level lo hi) ≡ true
unfolding every reachable holds_no_message
leaf-rested x i rs level lo hi = both (rested-quiet x (record { number = i; level = level; low = lo; high = hi; messages = []; children = end }) refl) refl

unread-rested : (x : Reachable) (i level : ℕ) (lo hi : List ℕ) → every (rested x) (reachable (unread i) level lo hi) ≡ true
unfolding every reachable
unread-rested x i level lo hi = refl

end-rested : (x : Reachable) (level : ℕ) (lifted hi : List ℕ) → every (rested x) (reachable_in end level lifted hi) ≡ true
unfolding every reachable_in
end-rested x level lifted hi = refl

pub tall-two : (i : ℕ) (f : Forest) (ms : List Message) (level : ℕ) → tall (interior i f ms) level ≡ true → 2 ≤ level
unfolding tall
tall-two i f ms level h = leb-true 2 level (and_left (leb 2 level) _ h)

-- the flushed node itself: it is quiet, and all others under it are of lower levels
here-rested : (x : Reachable) (i : ℕ) (f : Forest) (ms : List Message) (level : ℕ) (lo hi : List ℕ) → 2 ≤ level → x.level ≡ level
    → every (rested x) (reachable (flushed_node (interior i f ms) lo hi) level lo hi) ≡ true
unfolding every reachable holds_no_message flushed_node
here-rested x i f ms level lo hi l e =
    both (rested-quiet x (record { number = i; level = level; low = lo; high = hi; messages = []; children = pushed_all ms f (shared lo hi) hi }) refl)
    (every-weaker (λ y. leb y.level (level - 1)) (rested x) (reachable_in (pushed_all ms f (shared lo hi) hi) (level - 1) (shared lo hi) hi)
    (λ y h. rested-level x y (λ q. omega (arith, leb-true y.level (level - 1) h)))
    (places-under-in (pushed_all ms f (shared lo hi) hi) (level - 1) (shared lo hi) hi))

-- a node above it is of a higher level
above-rested : (x : Reachable) (n i : ℕ) (f g : Forest) (ms : List Message) (level : ℕ) (lo hi : List ℕ) → 2 ≤ level
    → reachable_at n (reachable_in f (level - 1) (shared lo hi) hi) ≡ some x → every (rested x) (reachable_in g (level - 1) (shared lo hi) hi) ≡ true
    → every (rested x) (reachable (interior i g ms) level lo hi) ≡ true
unfolding every reachable
above-rested x n i f g ms level lo hi l p k =
    let low : leb x.level (level - 1) ≡ true =
    place-test (λ y. leb y.level (level - 1)) n (reachable_in f (level - 1) (shared lo hi) hi) x (places-under-in f (level - 1) (shared lo hi) hi) p in
    both (rested-level x (record { number = i; level = level; low = lo; high = hi; messages = ms; children = g })
    (λ q. omega (arith, leb-true x.level (level - 1) low))) k

node-rested : (b : Bool) (x : Reachable) (n i : ℕ) (f g : Forest) (ms : List Message) (level : ℕ) (lo hi : List ℕ) → eqb n i ≡ b → 2 ≤ level
    → reachable_at n (reachable (interior i f ms) level lo hi) ≡ some x
    → (reachable_at n (reachable_in f (level - 1) (shared lo hi) hi) ≡ some x → every (rested x) (reachable_in g (level - 1) (shared lo hi) hi) ≡ true)
    → every (rested x) (reachable (cond b (flushed_node (interior i f ms) lo hi) (interior i g ms)) level lo hi) ≡ true
unfolding reachable_at reachable
node-rested true x n i f g ms level lo hi e l p k =
    let q : some (record { number = i; level = level; low = lo; high = hi; messages = ms; children = f }) ≡ some x = rw e at p in
    here-rested x i f ms level lo hi l
    (ap (λ (z : Reachable). z.level) (sym (Option·some-injective (record { number = i; level = level; low = lo; high = hi; messages = ms; children = f }) x q)))
node-rested false x n i f g ms level lo hi e l p k =
    let q : reachable_at n (reachable_in f (level - 1) (shared lo hi) hi) ≡ some x = rw e at p in
    above-rested x n i f g ms level lo hi l q (k q)

-- a child and the later children: the ranges of the others do not meet it
module _ (x : Reachable) (n : ℕ) (s : List ℕ) (t u : Tree) (f g : Forest) (level : ℕ) (lifted lo hi : List ℕ) (e : sound_forest (tree s t f) lifted lo hi ≡ true)
    (a : sound_tree u (lifted ++ s) (high_of lifted hi f) ≡ true) (b : sound_forest g lifted lo hi ≡ true) (h : high_of lifted hi g ≡ high_of lifted hi f)
    (first : reachable_at n (reachable t level (lifted ++ s) (high_of lifted hi f)) ≡ some x → every (rested x) (reachable u level (lifted ++ s) (high_of lifted hi f)) ≡ true)
    (later : reachable_at n (reachable_in f level lifted hi) ≡ some x → every (rested x) (reachable_in g level lifted hi) ≡ true) where
  in-first : reachable_at n (reachable t level (lifted ++ s) (high_of lifted hi f)) ≡ some x
      → every (rested x) (reachable u level (lifted ++ s) (high_of lifted hi f) ++ reachable_in g level lifted hi) ≡ true
  in-first p =
      let w : within (lifted ++ s) (high_of lifted hi f) x ≡ true =
      place-test (within (lifted ++ s) (high_of lifted hi f)) n (reachable t level (lifted ++ s) (high_of lifted hi f)) x
      (places-within t level (lifted ++ s) (high_of lifted hi f) (parts s t f lifted lo hi e).first) p in
      let others : every (within (high_of lifted hi f) hi) (reachable_in g level lifted hi) ≡ true =
      subst (λ l. every (within l hi) (reachable_in g level lifted hi) ≡ true) h (places-within-in g level lifted lo hi b) in
      every-both (rested x) (reachable u level (lifted ++ s) (high_of lifted hi f)) (reachable_in g level lifted hi) (first p)
      (every-weaker (within (high_of lifted hi f) hi) (rested x) (reachable_in g level lifted hi)
      (λ y k. rested-after x y (le-le x.high (high_of lifted hi f) y.low (within-high (lifted ++ s) (high_of lifted hi f) x w) (within_low (high_of lifted hi f) hi y k)))
      others)

  in-later : reachable_at n (reachable_in f level lifted hi) ≡ some x
      → every (rested x) (reachable u level (lifted ++ s) (high_of lifted hi f) ++ reachable_in g level lifted hi) ≡ true
  in-later p =
      let w : within (high_of lifted hi f) hi x ≡ true =
      place-test (within (high_of lifted hi f) hi) n (reachable_in f level lifted hi) x (places-within-in f level lifted lo hi (parts s t f lifted lo hi e).later) p in
      every-both (rested x) (reachable u level (lifted ++ s) (high_of lifted hi f)) (reachable_in g level lifted hi)
      (every-weaker (within (lifted ++ s) (high_of lifted hi f)) (rested x) (reachable u level (lifted ++ s) (high_of lifted hi f))
      (λ y k. rested-before x y (le-le y.high (high_of lifted hi f) x.low (within-high (lifted ++ s) (high_of lifted hi f) y k) (within_low (high_of lifted hi f) hi x w)))
      (places-within u level (lifted ++ s) (high_of lifted hi f) a))
      (later p)

  in_either : (o : Option Reachable) → reachable_at n (reachable t level (lifted ++ s) (high_of lifted hi f)) ≡ o
      → or_else (reachable_at n (reachable t level (lifted ++ s) (high_of lifted hi f))) (reachable_at n (reachable_in f level lifted hi)) ≡ some x
      → every (rested x) (reachable u level (lifted ++ s) (high_of lifted hi f) ++ reachable_in g level lifted hi) ≡ true
  unfolding or_else
  in_either none k p = in-later (subst (λ o. or_else o (reachable_at n (reachable_in f level lifted hi)) ≡ some x) k p)
  in_either (some z) k p = in-first (k ∙ subst (λ o. or_else o (reachable_at n (reachable_in f level lifted hi)) ≡ some x) k p)

  tree-rested : reachable_at n (reachable_in (tree s t f) level lifted hi) ≡ some x → every (rested x) (reachable_in (tree s u g) level lifted hi) ≡ true
  unfolding reachable_in
  tree-rested p =
      rw h (in_either (reachable_at n (reachable t level (lifted ++ s) (high_of lifted hi f))) refl
      (sym (place-append n (reachable t level (lifted ++ s) (high_of lifted hi f)) (reachable_in f level lifted hi)) ∙ p))

mutual
  unfolding altered altered_in

  flush-rested : (t : Tree) (n : ℕ) (x : Reachable) (level : ℕ) (lo hi : List ℕ) → sound_tree t lo hi ≡ true → tall t level ≡ true
      → reachable_at n (reachable t level lo hi) ≡ some x → every (rested x) (reachable (altered t n flushed_node lo hi) level lo hi) ≡ true
  flush-rested (unread i) n x level lo hi e h p = unread-rested x i level lo hi
  flush-rested (leaf i rs) n x level lo hi e h p = leaf-rested x i rs level lo hi
  flush-rested (interior i f ms) n x level lo hi e h p =
      node-rested (eqb n i) x n i f (altered_in f n flushed_node (shared lo hi) hi) ms level lo hi refl (tall-two i f ms level h) p
      (λ q. flush-rested-in f n x (level - 1) (shared lo hi) lo hi (inner i f ms lo hi e).branches (tall-branches i f ms level h) q)

  flush-rested-in : (f : Forest) (n : ℕ) (x : Reachable) (level : ℕ) (lifted lo hi : List ℕ) → sound_forest f lifted lo hi ≡ true → tall_in f level ≡ true
      → reachable_at n (reachable_in f level lifted hi) ≡ some x → every (rested x) (reachable_in (altered_in f n flushed_node lifted hi) level lifted hi) ≡ true
  flush-rested-in end n x level lifted lo hi e h p = end-rested x level lifted hi
  flush-rested-in (tree s t f) n x level lifted lo hi e h p =
      tree-rested x n s t (altered t n flushed_node (lifted ++ s) (high_of lifted hi f)) f (altered_in f n flushed_node lifted hi) level lifted lo hi e
      (altered-mends t n flushed_node flush-sane (lifted ++ s) (high_of lifted hi f) level (parts s t f lifted lo hi e).first (tall-first s t f level h)).sound
      (altered-mends-in f n flushed_node flush-sane lifted lo hi level (parts s t f lifted lo hi e).later (tall-later s t f level h)).sound
      (high-altered f n flushed_node lifted hi lifted hi)
      (λ q. flush-rested t n x level (lifted ++ s) (high_of lifted hi f) (parts s t f lifted lo hi e).first (tall-first s t f level h) q)
      (λ q. flush-rested-in f n x level lifted lo hi (parts s t f lifted lo hi e).later (tall-later s t f level h) q)
      p

-- THE NODE ITSELF is found without a message
emptied-append : (n : ℕ) (xs ys : List Reachable) → emptied (reachable_at n xs) ≡ true → emptied (reachable_at n ys) ≡ true → emptied (reachable_at n (xs ++ ys)) ≡ true
unfolding or_else
emptied-append n xs ys a b = ap emptied (place-append n xs ys) ∙ go (reachable_at n xs) a
  where
    go : (o : Option Reachable) → emptied o ≡ true → emptied (or_else o (reachable_at n ys)) ≡ true
    go none h = b
    go (some y) h = h

one-emptied : (n : ℕ) (y : Reachable) (ys : List Reachable) → (eqb n y.number ≡ true → holds_no_message y ≡ true) → (eqb n y.number ≡ false → emptied (reachable_at n ys) ≡ true)
    → emptied (reachable_at n (y ∷ ys)) ≡ true
unfolding reachable_at emptied
one-emptied n y ys a b = cases (eqb n y.number) (λ e. rw e (a e)) (λ e. rw e (b e))

node-emptied : (b : Bool) (n i : ℕ) (f g : Forest) (ms : List Message) (level : ℕ) (lo hi : List ℕ) → eqb n i ≡ b
    → emptied (reachable_at n (reachable_in g (level - 1) (shared lo hi) hi)) ≡ true
    → emptied (reachable_at n (reachable (cond b (flushed_node (interior i f ms) lo hi) (interior i g ms)) level lo hi)) ≡ true
unfolding reachable flushed_node holds_no_message
node-emptied true n i f g ms level lo hi e k =
    one-emptied n (record { number = i; level = level; low = lo; high = hi; messages = []; children = pushed_all ms f (shared lo hi) hi })
    (reachable_in (pushed_all ms f (shared lo hi) hi) (level - 1) (shared lo hi) hi) (λ h. refl) (λ h. not_so e h)
node-emptied false n i f g ms level lo hi e k =
    one-emptied n (record { number = i; level = level; low = lo; high = hi; messages = ms; children = g }) (reachable_in g (level - 1) (shared lo hi) hi) (λ h. not_so h e) (λ h. k)

mutual
  unfolding altered altered_in reachable reachable_in reachable_at emptied holds_no_message

  flush-emptied : (t : Tree) (n level : ℕ) (lo hi : List ℕ) → emptied (reachable_at n (reachable (altered t n flushed_node lo hi) level lo hi)) ≡ true
  flush-emptied (unread i) n level lo hi = refl
  flush-emptied (leaf i rs) n level lo hi =
      one-emptied n (record { number = i; level = level; low = lo; high = hi; messages = []; children = end }) [] (λ h. refl) (λ h. refl)
  flush-emptied (interior i f ms) n level lo hi =
      node-emptied (eqb n i) n i f (altered_in f n flushed_node (shared lo hi) hi) ms level lo hi refl (flush-emptied-in f n (level - 1) (shared lo hi) hi)

  flush-emptied-in : (f : Forest) (n level : ℕ) (lifted hi : List ℕ) → emptied (reachable_at n (reachable_in (altered_in f n flushed_node lifted hi) level lifted hi)) ≡ true
  flush-emptied-in end n level lifted hi = refl
  flush-emptied-in (tree s t f) n level lifted hi =
      rw (high-altered f n flushed_node lifted hi lifted hi)
      (emptied-append n (reachable (altered t n flushed_node (lifted ++ s) (high_of lifted hi f)) level (lifted ++ s) (high_of lifted hi f))
      (reachable_in (altered_in f n flushed_node lifted hi) level lifted hi)
      (flush-emptied t n level (lifted ++ s) (high_of lifted hi f)) (flush-emptied-in f n level lifted hi))

-- NO NODE OF ITS LEVEL OR ABOVE GAINS A MESSAGE
level-append : (level : ℕ) (xs ys : List Reachable) → from_level level (xs ++ ys) ≡ from_level level xs ++ from_level level ys
unfolding from_level
level-append level [] ys = refl
level-append level (x ∷ xs) ys = go (leb level x.level) (level-append level xs ys)
  where
    go : (b : Bool) → from_level level (xs ++ ys) ≡ from_level level xs ++ from_level level ys
        → cond b (x ∷ from_level level (xs ++ ys)) (from_level level (xs ++ ys)) ≡ cond b (x ∷ from_level level xs) (from_level level xs) ++ from_level level ys
    go true ih = ap (λ l. x ∷ l) ih
    go false ih = ih

level-none : (level under : ℕ) (xs : List Reachable) → under < level → every (λ y. leb y.level under) xs ≡ true → from_level level xs ≡ []
unfolding from_level every
level-none level under [] h e = refl
level-none level under (x ∷ xs) h e =
    let low : x.level ≤ under = leb-true x.level under (and_left (leb x.level under) _ e) in
    rw (lt-leb level x.level (omega arith)) (level-none level under xs h (and_right (leb x.level under) _ e))

all-gone : (xs : List Reachable) → NoGain xs []
all-gone [] = NoGain.empty
all-gone (x ∷ xs) = NoGain.gone (all-gone xs)

one_more : (level : ℕ) (x y : Reachable) (xs ys : List Reachable) → y.number ≡ x.number → gains_no_message y (some x) ≡ true → NoGain xs (from_level level ys)
    → NoGain (x ∷ xs) (from_level level (y ∷ ys))
unfolding from_level
one_more level x y xs ys n g k = go (leb level y.level)
  where
    go : (b : Bool) → NoGain (x ∷ xs) (cond b (y ∷ from_level level ys) (from_level level ys))
    go true = NoGain.keep n g k
    go false = NoGain.gone k

every-left : (test : Reachable → Bool) (xs ys : List Reachable) → every test (xs ++ ys) ≡ true → every test xs ≡ true
unfolding every
every-left test [] ys e = refl
every-left test (x ∷ xs) ys e = both (and_left (test x) _ e) (every-left test xs ys (and_right (test x) _ e))

every-right : (test : Reachable → Bool) (xs ys : List Reachable) → every test (xs ++ ys) ≡ true → every test ys ≡ true
unfolding every
every-right test [] ys e = e
every-right test (x ∷ xs) ys e = every-right test xs ys (and_right (test x) _ e)

node-no-gain : (b : Bool) (n i at : ℕ) (f g : Forest) (ms : List Message) (level : ℕ) (lo hi : List ℕ) → eqb n i ≡ b → 2 ≤ level
    → every (is_level n at) (reachable (interior i f ms) level lo hi) ≡ true
    → (every (is_level n at) (reachable_in f (level - 1) (shared lo hi) hi) ≡ true
    → NoGain (reachable_in f (level - 1) (shared lo hi) hi) (from_level at (reachable_in g (level - 1) (shared lo hi) hi)))
    → NoGain (reachable (interior i f ms) level lo hi) (from_level at (reachable (cond b (flushed_node (interior i f ms) lo hi) (interior i g ms)) level lo hi))
unfolding reachable flushed_node every is_level
node-no-gain true n i at f g ms level lo hi e l h k =
    let is : not (eqb n i) || eqb level at ≡ true = and_left _ _ h in
    let here : level ≡ at = eqb-true level at (rw e at is) in
    one_more at (record { number = i; level = level; low = lo; high = hi; messages = ms; children = f })
    (record { number = i; level = level; low = lo; high = hi; messages = []; children = pushed_all ms f (shared lo hi) hi })
    (reachable_in f (level - 1) (shared lo hi) hi) (reachable_in (pushed_all ms f (shared lo hi) hi) (level - 1) (shared lo hi) hi) refl
    (gains-none-empty _ (record { number = i; level = level; low = lo; high = hi; messages = []; children = pushed_all ms f (shared lo hi) hi }) refl)
    (subst (NoGain (reachable_in f (level - 1) (shared lo hi) hi))
    (sym (level-none at (level - 1) (reachable_in (pushed_all ms f (shared lo hi) hi) (level - 1) (shared lo hi) hi) (omega arith)
    (places-under-in (pushed_all ms f (shared lo hi) hi) (level - 1) (shared lo hi) hi)))
    (all-gone (reachable_in f (level - 1) (shared lo hi) hi)))
node-no-gain false n i at f g ms level lo hi e l h k =
    one_more at (record { number = i; level = level; low = lo; high = hi; messages = ms; children = f })
    (record { number = i; level = level; low = lo; high = hi; messages = ms; children = g })
    (reachable_in f (level - 1) (shared lo hi) hi) (reachable_in g (level - 1) (shared lo hi) hi) refl (children-aside i level lo hi ms f g)
    (k (and_right (not (eqb n i) || eqb level at) _ h))
  where
    children-aside : (i level : ℕ) (lo hi : List ℕ) (ms : List Message) (f g : Forest)
        → gains_no_message (record { number = i; level = level; low = lo; high = hi; messages = ms; children = g })
        (some (record { number = i; level = level; low = lo; high = hi; messages = ms; children = f })) ≡ true
    children-aside i level lo hi ms f g =
        unfold gains_no_message in (unfold gains_no_message in gains-none-same (record { number = i; level = level; low = lo; high = hi; messages = ms; children = f }))

tree-no-gain : (s : List ℕ) (t u : Tree) (f g : Forest) (n at level : ℕ) (lifted hi : List ℕ) → high_of lifted hi g ≡ high_of lifted hi f
    → every (is_level n at) (reachable_in (tree s t f) level lifted hi) ≡ true
    → (every (is_level n at) (reachable t level (lifted ++ s) (high_of lifted hi f)) ≡ true
    → NoGain (reachable t level (lifted ++ s) (high_of lifted hi f)) (from_level at (reachable u level (lifted ++ s) (high_of lifted hi f))))
    → (every (is_level n at) (reachable_in f level lifted hi) ≡ true → NoGain (reachable_in f level lifted hi) (from_level at (reachable_in g level lifted hi)))
    → NoGain (reachable_in (tree s t f) level lifted hi) (from_level at (reachable_in (tree s u g) level lifted hi))
unfolding reachable_in
tree-no-gain s t u f g n at level lifted hi q e a b =
    rw (q, level-append at (reachable u level (lifted ++ s) (high_of lifted hi f)) (reachable_in g level lifted hi))
    (no-gain-append (a (every-left (is_level n at) (reachable t level (lifted ++ s) (high_of lifted hi f)) (reachable_in f level lifted hi) e))
    (b (every-right (is_level n at) (reachable t level (lifted ++ s) (high_of lifted hi f)) (reachable_in f level lifted hi) e)))

unread-no-gain : (i at level : ℕ) (lo hi : List ℕ) → NoGain (reachable (unread i) level lo hi) (from_level at (reachable (unread i) level lo hi))
unfolding reachable from_level
unread-no-gain i at level lo hi = NoGain.empty

leaf-no-gain : (i : ℕ) (rs : List Row) (at level : ℕ) (lo hi : List ℕ) → NoGain (reachable (leaf i rs) level lo hi) (from_level at (reachable (leaf i rs) level lo hi))
unfolding reachable
leaf-no-gain i rs at level lo hi =
    one_more at (record { number = i; level = level; low = lo; high = hi; messages = []; children = end })
    (record { number = i; level = level; low = lo; high = hi; messages = []; children = end }) [] [] refl
    (gains-none-same (record { number = i; level = level; low = lo; high = hi; messages = []; children = end })) (unfold from_level in NoGain.empty)

end-no-gain : (at level : ℕ) (lifted hi : List ℕ) → NoGain (reachable_in end level lifted hi) (from_level at (reachable_in end level lifted hi))
unfolding reachable_in from_level
end-no-gain at level lifted hi = NoGain.empty

mutual
  unfolding altered altered_in

  flush-no-gain : (t : Tree) (n at level : ℕ) (lo hi : List ℕ) → tall t level ≡ true → every (is_level n at) (reachable t level lo hi) ≡ true
      → NoGain (reachable t level lo hi) (from_level at (reachable (altered t n flushed_node lo hi) level lo hi))
  flush-no-gain (unread i) n at level lo hi h e = unread-no-gain i at level lo hi
  flush-no-gain (leaf i rs) n at level lo hi h e = leaf-no-gain i rs at level lo hi
  flush-no-gain (interior i f ms) n at level lo hi h e =
      node-no-gain (eqb n i) n i at f (altered_in f n flushed_node (shared lo hi) hi) ms level lo hi refl (tall-two i f ms level h) e
      (λ q. flush-no-gain-in f n at (level - 1) (shared lo hi) hi (tall-branches i f ms level h) q)

  flush-no-gain-in : (f : Forest) (n at level : ℕ) (lifted hi : List ℕ) → tall_in f level ≡ true → every (is_level n at) (reachable_in f level lifted hi) ≡ true
      → NoGain (reachable_in f level lifted hi) (from_level at (reachable_in (altered_in f n flushed_node lifted hi) level lifted hi))
  flush-no-gain-in end n at level lifted hi h e = end-no-gain at level lifted hi
  flush-no-gain-in (tree s t f) n at level lifted hi h e =
      tree-no-gain s t (altered t n flushed_node (lifted ++ s) (high_of lifted hi f)) f (altered_in f n flushed_node lifted hi) n at level lifted hi
      (high-altered f n flushed_node lifted hi lifted hi) e
      (λ q. flush-no-gain t n at level (lifted ++ s) (high_of lifted hi f) (tall-first s t f level h) q)
      (λ q. flush-no-gain-in f n at level lifted hi (tall-later s t f level h) q)

-- Document 01's flush, of node n whose place was x.
pub flush-flushed : (t : Tree) (n : ℕ) (lo hi : List ℕ) (level : ℕ) (x : Reachable) → sound_tree t lo hi ≡ true → tall t level ≡ true → once (numbers t) ≡ true
    → reachable_at n (reachable t level lo hi) ≡ some x → flushed x (reachable t level lo hi) (reachable (flushed_tree t n lo hi) level lo hi) ≡ true
unfolding flushed none_waits flushed_tree rested
flush-flushed t n lo hi level x e h o p =
    let distinct : once (numbers_of (reachable t level lo hi)) ≡ true = ap once (numbers-places t level lo hi e) ∙ o in
    both
    (both (flush-rested t n x level lo hi e h p)
    (ap (λ k. emptied (reachable_at k (reachable (altered t n flushed_node lo hi) level lo hi))) (sym (place-number n (reachable t level lo hi) x p)) ∙ flush-emptied t n level lo hi))
    (no-gain (reachable t level lo hi) (from_level x.level (reachable (altered t n flushed_node lo hi) level lo hi)) distinct
    (flush-no-gain t n x.level level lo hi h (one-level n x (reachable t level lo hi) distinct p)))
