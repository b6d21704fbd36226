-- Next as one walk over a tree: it carries the best path so far, and takes a pair's or a put's path if it is below `below`, after `since`, before the
-- best, and present. A child may be skipped if no path that it can hold is wanted.
use Rattle.std.specs.Prelude.{ℕ, ◌≡◌, refl, List, [], ◌∷◌, ◌++◌, ◌⊎◌, Bool, true, false, ◌&&◌, ◌||◌, not, cond}
use Rattle.image.specs.Prelude.{sym, ap, ◌∙◌, inl, inr, false≢true, true≢false, Option, none, some, cases}
use Rattle.image.specs.Bytes.{same, before, begins, shared}
use Rattle.image.specs.Path.{well_formed, owns, value_fits}
use Rattle.image.specs.Entry.{Message, puts, drops, clears}
use Rattle.image.specs.Table.{Row, find, is_some, without, without_below, under_prefix, every_key, rising, least_after}
use Rattle.image.specs.Image.{Tree, unread, leaf, interior, Forest, end, tree}
use Rattle.image.specs.Meaning.{high_of, apply, apply_all, rows, rows_in}
use Rattle.image.specs.Sound.{sound_tree, sound_forest, sound_message, sound_messages}
use Rattle.octets.specs.Order.{and_left, and_right, and_assoc, not_so, not-true, same-eq, before-trans, before-irrefl, before-le, refuted}
use Rattle.laws.specs.Tables.{find-nil, find-no, find-with-other, find-without, find-without-other, find-cleared, find-spared, find-append-none}
use Rattle.laws.specs.Frame.{or_left, or_right}
use Rattle.laws.specs.Rising.{both}
use Rattle.laws.specs.LookupTable.{parts, inner, not_low, under-high, does-own, high-under as high-in}
use Rattle.laws.specs.Next.{Fits, least-is, least-none}

-- The paths of all pairs and puts of a tree, in the order of the entries.
unfoldable pub keys_of : List Row → List (List ℕ)
keys_of [] = []
keys_of (r ∷ t) = r.key ∷ keys_of t

unfoldable pub puts_of : List ℕ → List Message → List (List ℕ)
puts_of lifted [] = []
puts_of lifted (puts s v ∷ ms) = (lifted ++ s) ∷ puts_of lifted ms
puts_of lifted (drops s ∷ ms) = puts_of lifted ms
puts_of lifted (clears s ∷ ms) = puts_of lifted ms

unfoldable mutual
  pub keys : Tree → List ℕ → List ℕ → List (List ℕ)
  keys (unread i) lo hi = []
  keys (leaf i rs) lo hi = keys_of (under_prefix (shared lo hi) rs)
  keys (interior i f ms) lo hi = keys_in f (shared lo hi) hi ++ puts_of (shared lo hi) ms

  pub keys_in : Forest → List ℕ → List ℕ → List (List ℕ)
  keys_in end lifted hi = []
  keys_in (tree s t f) lifted hi = keys t (lifted ++ s) (high_of lifted hi f) ++ keys_in f lifted hi

-- k is before the best so far
unfoldable pub better : Option (List ℕ) → List ℕ → Bool
better none k = true
better (some b) k = before k b

-- below `below`, after `since`, before the best so far
unfoldable pub wanted : List ℕ → List ℕ → Option (List ℕ) → List ℕ → Bool
wanted below since best k = begins below k && before since k && better best k

module _ (present : List ℕ → Bool) (below since : List ℕ) where
  unfoldable pub try : Option (List ℕ) → List ℕ → Option (List ℕ)
  try best k = cond (wanted below since best k && present k) (some k) best

  unfoldable pub walk : Option (List ℕ) → List (List ℕ) → Option (List ℕ)
  walk best [] = best
  walk best (k ∷ ks) = walk (try best k) ks
  -- the walk, with children skipped

-- a test of every path of a list
unfoldable pub every : (List ℕ → Bool) → List (List ℕ) → Bool
every test [] = true
every test (k ∷ ks) = test k && every test ks

pub every_append : (test : List ℕ → Bool) (a b : List (List ℕ)) → every test (a ++ b) ≡ every test a && every test b
unfolding every
every_append test [] b = refl
every_append test (k ∷ a) b = ap (λ x. test k && x) (every_append test a b) ∙ sym (and_assoc (test k) (every test a) (every test b))

pub every-impl : (test other : List ℕ → Bool) (h : (k : List ℕ) → test k ≡ true → other k ≡ true) (a : List (List ℕ)) → every test a ≡ true → every other a ≡ true
unfolding every
every-impl test other h [] e = refl
every-impl test other h (k ∷ a) e = both (h k (and_left (test k) (every test a) e)) (every-impl test other h a (and_right (test k) _ e))

-- 1. Every key of a sound tree is owned by it, and well formed.
unfoldable pub holds : List ℕ → List ℕ → List ℕ → Bool
holds lo hi k = well_formed k && owns lo hi k

rows-hold : (lo hi : List ℕ) (t : List Row) → every_key well_formed t ≡ true → every_key (owns lo hi) t ≡ true → every (holds lo hi) (keys_of t) ≡ true
unfolding every keys_of every_key holds
rows-hold lo hi [] e f = refl
rows-hold lo hi (r ∷ t) e f =
    both (both (and_left (well_formed r.key) (every_key well_formed t) e) (and_left (owns lo hi r.key) (every_key (owns lo hi) t) f)) (rows-hold lo hi t (and_right (well_formed r.key) _ e) (and_right (owns lo hi r.key) _ f))

leaf-hold : (i : ℕ) (rs : List Row) (lo hi : List ℕ) → sound_tree (leaf i rs) lo hi ≡ true → every (holds lo hi) (keys_of (under_prefix (shared lo hi) rs)) ≡ true
unfolding sound_tree
leaf-hold i rs lo hi e =
    let a : every_key well_formed (under_prefix (shared lo hi) rs) && every_key (owns lo hi) (under_prefix (shared lo hi) rs) ≡ true = and_left _ _ (and_left _ _ e) in
    rows-hold lo hi (under_prefix (shared lo hi) rs) (and_left _ _ a) (and_right (every_key well_formed (under_prefix (shared lo hi) rs)) _ a)

puts-hold : (lo hi : List ℕ) (ms : List Message) → sound_messages lo hi ms ≡ true → every (holds lo hi) (puts_of (shared lo hi) ms) ≡ true
unfolding sound_messages sound_message puts_of every holds
puts-hold lo hi [] e = refl
puts-hold lo hi (puts s v ∷ ms) e =
    both (and_left (well_formed (shared lo hi ++ s) && owns lo hi (shared lo hi ++ s)) (value_fits v) (and_left (sound_message lo hi (puts s v)) (sound_messages lo hi ms) e)) (puts-hold lo hi ms (and_right (sound_message lo hi (puts s v)) _ e))
puts-hold lo hi (drops s ∷ ms) e = puts-hold lo hi ms (and_right (sound_message lo hi (drops s)) _ e)
puts-hold lo hi (clears s ∷ ms) e = puts-hold lo hi ms (and_right (sound_message lo hi (clears s)) _ e)

widen : (s : List ℕ) (t : Tree) (f : Forest) (lifted lo hi k : List ℕ) → sound_forest (tree s t f) lifted lo hi ≡ true
    → holds (lifted ++ s) (high_of lifted hi f) k ≡ true → holds lo hi k ≡ true
unfolding holds
widen s t f lifted lo hi k e h =
    let o : owns (lifted ++ s) (high_of lifted hi f) k ≡ true = and_right (well_formed k) _ h in
    both (and_left (well_formed k) (owns (lifted ++ s) (high_of lifted hi f) k) h)
    (does-own lo hi k (low (before k lo) refl o) (high-in f lifted lo hi k (parts s t f lifted lo hi e).later (under-high (lifted ++ s) (high_of lifted hi f) k o)))
  where
    low : (y : Bool) → before k lo ≡ y → owns (lifted ++ s) (high_of lifted hi f) k ≡ true → before k lo ≡ false
    low false g o = g
    low true g o =
        not_so (before-le k lo (lifted ++ s) g (not_low lo hi (lifted ++ s) (parts s t f lifted lo hi e).owned))
        (not_low (lifted ++ s) (high_of lifted hi f) k o)

nil-hold : (lo hi : List ℕ) → every (holds lo hi) [] ≡ true
unfolding every
nil-hold lo hi = refl

mutual
  unfolding keys keys_in

  pub keys-hold : (t : Tree) (lo hi : List ℕ) → sound_tree t lo hi ≡ true → every (holds lo hi) (keys t lo hi) ≡ true
  keys-hold (unread i) lo hi e = nil-hold lo hi
  keys-hold (leaf i rs) lo hi e = leaf-hold i rs lo hi e
  keys-hold (interior i f ms) lo hi e =
      every_append (holds lo hi) (keys_in f (shared lo hi) hi) (puts_of (shared lo hi) ms)
      ∙ both (keys-hold-in f (shared lo hi) lo hi (inner i f ms lo hi e).branches) (puts-hold lo hi ms (inner i f ms lo hi e).wait)

  pub keys-hold-in : (f : Forest) (lifted lo hi : List ℕ) → sound_forest f lifted lo hi ≡ true → every (holds lo hi) (keys_in f lifted hi) ≡ true
  keys-hold-in end lifted lo hi e = nil-hold lo hi
  keys-hold-in (tree s t f) lifted lo hi e =
      every_append (holds lo hi) (keys t (lifted ++ s) (high_of lifted hi f)) (keys_in f lifted hi)
      ∙ both (every-impl (holds (lifted ++ s) (high_of lifted hi f)) (holds lo hi) (λ k h. widen s t f lifted lo hi k e h) (keys t (lifted ++ s) (high_of lifted hi f))
      (keys-hold t (lifted ++ s) (high_of lifted hi f) (parts s t f lifted lo hi e).first))
      (keys-hold-in f lifted lo hi (parts s t f lifted lo hi e).later)

-- 2. Skipping changes nothing.
module _ (present : List ℕ → Bool) (below since : List ℕ) where
  pub walk-append : (best : Option (List ℕ)) (a b : List (List ℕ)) → walk present below since best (a ++ b) ≡ walk present below since (walk present below since best a) b
  unfolding walk
  walk-append best [] b = refl
  walk-append best (k ∷ a) b = walk-append (try present below since best k) a b

  pub walk_none : (best : Option (List ℕ)) (a : List (List ℕ)) → every (λ k. not (wanted below since best k)) a ≡ true → walk present below since best a ≡ best
  unfolding walk try every
  walk_none best [] e = refl
  walk_none best (k ∷ a) e =
      rw (not-true (wanted below since best k) (and_left _ _ e)) (walk_none best a (and_right (not (wanted below since best k)) _ e))

-- 3. Every present path stands in an entry.
unfoldable pub is_key : List ℕ → List (List ℕ) → Bool
is_key k [] = false
is_key k (m ∷ ms) = same k m || is_key k ms

unfoldable pub present : List ℕ → List Row → Bool
present k t = is_some (find k t)

key_left : (k : List ℕ) (a b : List (List ℕ)) → is_key k a ≡ true → is_key k (a ++ b) ≡ true
unfolding is_key
key_left k [] b e = absurd (false≢true e)
key_left k (m ∷ a) b e = cases (same k m) (λ s. rw s) (λ s. rw s (key_left k a b (rw s at e)))

key_right : (k : List ℕ) (a b : List (List ℕ)) → is_key k b ≡ true → is_key k (a ++ b) ≡ true
unfolding is_key
key_right k [] b e = e
key_right k (m ∷ a) b e = or_right (same k m) (is_key k (a ++ b)) (key_right k a b e)

-- a path that stands among paths that all pass a test passes it
pub key-passes : (test : List ℕ → Bool) (k : List ℕ) (ks : List (List ℕ)) → is_key k ks ≡ true → every test ks ≡ true → test k ≡ true
unfolding is_key every
key-passes test k [] h e = absurd (false≢true h)
key-passes test k (m ∷ ks) h e = go (same k m) refl (λ g. key-passes test k ks g (and_right (test m) _ e))
  where
    go : (x : Bool) → same k m ≡ x → (is_key k ks ≡ true → test k ≡ true) → test k ≡ true
    go true a ih = rw (same-eq k m a) (and_left (test m) (every test ks) e)
    go false a ih = ih (rw a at h)

pub not-present : (k : List ℕ) (t : List Row) → find k t ≡ none → present k t ≡ false
unfolding present is_some
not-present k t e = rw e

rows-stand : (k : List ℕ) (t : List Row) → present k t ≡ true → is_key k (keys_of t) ≡ true
unfolding is_key keys_of present
rows-stand k [] e = absurd (not_so e (not-present k [] (find-nil k)))
rows-stand k (r ∷ t) e = cases (same k r.key) (λ s. rw s) (λ s. rw s (rows-stand k t (rw (find-no k r t s) at e)))

-- present after a message: it was so before, or the message is the put of it
apply-stand : (l k : List ℕ) (m : Message) (ms : List Message) (t : List Row) → present k (apply l m t) ≡ true
    → (is_key k (puts_of l (m ∷ ms)) ≡ true) ⊎ (present k t ≡ true)
unfolding apply puts_of is_key present
apply-stand l k (puts s v) ms t e =
    cases (same k (l ++ s)) (λ a. inl (or_left (same k (l ++ s)) (is_key k (puts_of l ms)) a))
    (λ a. inr (rw (find-with-other k (l ++ s) v t a) at e))
apply-stand l k (drops s) ms t e =
    cases (same k (l ++ s)) (λ a. not_so e (not-present k (without (l ++ s) t) (rw (← same-eq k (l ++ s) a) (find-without k t))))
    (λ a. inr (rw (find-without-other k (l ++ s) t a) at e))
apply-stand l k (clears s) ms t e =
    cases (begins (l ++ s) k) (λ a. not_so e (not-present k (without_below (l ++ s) t) (find-cleared k (l ++ s) t a)))
    (λ a. inr (rw (find-spared k (l ++ s) t a) at e))

-- an older put stands, whatever follows it
put-later : (l k : List ℕ) (m : Message) (ms : List Message) → is_key k (puts_of l ms) ≡ true → is_key k (puts_of l (m ∷ ms)) ≡ true
unfolding puts_of is_key
put-later l k (puts s v) ms e = or_right (same k (l ++ s)) (is_key k (puts_of l ms)) e
put-later l k (drops s) ms e = e
put-later l k (clears s) ms e = e

all-stand : (l k : List ℕ) (ms : List Message) (t : List Row) → present k (apply_all l ms t) ≡ true → (is_key k (puts_of l ms) ≡ true) ⊎ (present k t ≡ true)
unfolding apply_all
all-stand l k [] t e = inr e
all-stand l k (m ∷ ms) t e = go (all-stand l k ms (apply l m t) e)
  where
    go : (is_key k (puts_of l ms) ≡ true) ⊎ (present k (apply l m t) ≡ true) → (is_key k (puts_of l (m ∷ ms)) ≡ true) ⊎ (present k t ≡ true)
    go (inl h) = inl (put-later l k m ms h)
    go (inr h) = apply-stand l k m ms t h

node-stand : (l k : List ℕ) (ms : List Message) (t : List Row) (ks : List (List ℕ)) → (present k t ≡ true → is_key k ks ≡ true)
    → present k (apply_all l ms t) ≡ true → is_key k (ks ++ puts_of l ms) ≡ true
node-stand l k ms t ks h e = go (all-stand l k ms t e)
  where
    go : (is_key k (puts_of l ms) ≡ true) ⊎ (present k t ≡ true) → is_key k (ks ++ puts_of l ms) ≡ true
    go (inl a) = key_right k ks (puts_of l ms) a
    go (inr a) = key_left k ks (puts_of l ms) (h a)

branches-stand : (k : List ℕ) (t u : List Row) (a b : List (List ℕ)) → (present k t ≡ true → is_key k a ≡ true) → (present k u ≡ true → is_key k b ≡ true)
    → present k (t ++ u) ≡ true → is_key k (a ++ b) ≡ true
unfolding present is_some
branches-stand k t u a b f g e = go (find k t) refl
  where
    go : (x : Option (List ℕ)) → find k t ≡ x → is_key k (a ++ b) ≡ true
    go none z = key_right k a b (g (rw (find-append-none k t u z) at e))
    go (some v) z = key_left k a b (f (rw z))

mutual
  unfolding rows rows_in keys keys_in

  pub stands : (t : Tree) (lo hi k : List ℕ) → present k (rows t lo hi) ≡ true → is_key k (keys t lo hi) ≡ true
  stands (unread i) lo hi k e = not_so e (not-present k [] (find-nil k))
  stands (leaf i rs) lo hi k e = rows-stand k (under_prefix (shared lo hi) rs) e
  stands (interior i f ms) lo hi k e =
      node-stand (shared lo hi) k ms (rows_in f (shared lo hi) hi) (keys_in f (shared lo hi) hi) (λ h. stands-in f (shared lo hi) hi k h) e

  pub stands-in : (f : Forest) (lifted hi k : List ℕ) → present k (rows_in f lifted hi) ≡ true → is_key k (keys_in f lifted hi) ≡ true
  stands-in end lifted hi k e = not_so e (not-present k [] (find-nil k))
  stands-in (tree s t f) lifted hi k e =
      branches-stand k (rows t (lifted ++ s) (high_of lifted hi f)) (rows_in f lifted hi) (keys t (lifted ++ s) (high_of lifted hi f)) (keys_in f lifted hi)
      (λ h. stands t (lifted ++ s) (high_of lifted hi f) k h) (λ h. stands-in f lifted hi k h) e

-- 4. The walk over all keys ends at the least path that fits.
module _ (below since : List ℕ) (T : List Row) where
  abbrev there : List ℕ → Bool
  there k = present k T

  -- the best so far fits
  data Good : Option (List ℕ) → Type 0 where
    nobody : Good none
    someone : {k : List ℕ} → Fits below since T k → Good (some k)

  try-yes : (best : Option (List ℕ)) (k : List ℕ) → wanted below since best k && present k T ≡ true → try there below since best k ≡ some k
  unfolding try
  try-yes best k e = rw e

  try-no : (best : Option (List ℕ)) (k : List ℕ) → wanted below since best k && present k T ≡ false → try there below since best k ≡ best
  unfolding try
  try-no best k e = rw e

  fits : (best : Option (List ℕ)) (k : List ℕ) → wanted below since best k && present k T ≡ true → Fits below since T k
  unfolding wanted present
  fits best k e =
      let a : begins below k && before since k && better best k ≡ true = and_left _ _ e in
      let b : begins below k && before since k ≡ true = and_left _ _ a in
      record { present = and_right (begins below k && before since k && better best k) _ e; under = and_left _ _ b; after = and_right (begins below k) _ b }

  is-better : (best : Option (List ℕ)) (k : List ℕ) → wanted below since best k && present k T ≡ true → better best k ≡ true
  unfolding wanted
  is-better best k e = and_right (begins below k && before since k) _ (and_left (begins below k && before since k && better best k) (present k T) e)

  not-better : (best : Option (List ℕ)) (k : List ℕ) → Fits below since T k → wanted below since best k && present k T ≡ false → better best k ≡ false
  unfolding wanted present
  not-better best k f e = refuted (λ b. not_so (both (both (both f.under f.after) b) f.present) e)

  try-good : (best : Option (List ℕ)) (k : List ℕ) → Good best → Good (try there below since best k)
  try-good best k g =
      cases (wanted below since best k && present k T) (λ e. rw (try-yes best k e) (someone (fits best k e)))
      (λ e. rw (try-no best k e) g)

  walk-good : (best : Option (List ℕ)) (ks : List (List ℕ)) → Good best → Good (walk there below since best ks)
  unfolding walk
  walk-good best [] g = g
  walk-good best (k ∷ ks) g = walk-good (try there below since best k) ks (try-good best k g)

  -- what is not before the best is not before a better one
  stays-low : (best : Option (List ℕ)) (k m : List ℕ) → better best k ≡ true → better best m ≡ false → better (some k) m ≡ false
  unfolding better
  stays-low none k m a e = absurd (true≢false e)
  stays-low (some b) k m a e = refuted (λ h. not_so (before-trans m k b h a) e)

  try-low : (best : Option (List ℕ)) (k m : List ℕ) → better best m ≡ false → better (try there below since best k) m ≡ false
  try-low best k m e =
      cases (wanted below since best k && present k T) (λ h. rw (try-yes best k h) (stays-low best k m (is-better best k h) e))
      (λ h. rw (try-no best k h) e)

  walk-low : (best : Option (List ℕ)) (ks : List (List ℕ)) (m : List ℕ) → better best m ≡ false → better (walk there below since best ks) m ≡ false
  unfolding walk
  walk-low best [] m e = e
  walk-low best (k ∷ ks) m e = walk-low (try there below since best k) ks m (try-low best k m e)

  better-irrefl : (k : List ℕ) → better (some k) k ≡ false
  unfolding better
  better-irrefl k = before-irrefl k

  try-met : (best : Option (List ℕ)) (k : List ℕ) → Fits below since T k → better (try there below since best k) k ≡ false
  try-met best k f =
      cases (wanted below since best k && present k T) (λ h. rw (try-yes best k h) (better-irrefl k))
      (λ h. rw (try-no best k h) (not-better best k f h))

  walk-met : (best : Option (List ℕ)) (ks : List (List ℕ)) (m : List ℕ) → Fits below since T m → is_key m ks ≡ true → better (walk there below since best ks) m ≡ false
  unfolding walk is_key
  walk-met best [] m f e = absurd (false≢true e)
  walk-met best (k ∷ ks) m f e =
      cases (same m k) (λ s. walk-low (try there below since best k) ks m (rw (← same-eq m k s) (try-met best m f)))
      (λ s. walk-met (try there below since best k) ks m f (rw s at e))

  ends_at : (r : Option (List ℕ)) → rising T ≡ true → Good r → ((m : List ℕ) → Fits below since T m → better r m ≡ false) → r ≡ least_after below since T
  unfolding better
  ends_at none e g h = sym (least-none below since T e (λ k f. true≢false (h k f)))
  ends_at (some b) e (someone f) h = sym (least-is below since T b e f h)

  pub walk-least : (ks : List (List ℕ)) → rising T ≡ true → ((k : List ℕ) → present k T ≡ true → is_key k ks ≡ true)
      → walk there below since none ks ≡ least_after below since T
  unfolding present
  walk-least ks e h =
      ends_at (walk there below since none ks) e (walk-good none ks nobody) (λ m f. walk-met none ks m f (h m f.present))

-- the walk depends on the test of presence only by its answers
pub walk_same : (a b : List ℕ → Bool) (below since : List ℕ) → ((k : List ℕ) → a k ≡ b k) → (best : Option (List ℕ)) (ks : List (List ℕ)) → walk a below since best ks ≡ walk b below since best ks
unfolding walk try
walk_same a b below since h best [] = refl
walk_same a b below since h best (k ∷ ks) = rw (h k) (walk_same a b below since h (try b below since best k) ks)
