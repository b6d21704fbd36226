-- Pushing a node's oldest message down to its children leaves the table of the node as it was.
use Rattle.std.specs.Prelude.{ℕ, ◌≡◌, refl, List, [], ◌∷◌, ◌++◌, Bool, true, false, ◌||◌, not, cond, length, drop}
use Rattle.image.specs.Prelude.{sym, ap, ap₂, ◌∙◌, append-nil, false≢true, cases}
use Rattle.image.specs.Bytes.{same, before, begins, shared}
use Rattle.image.specs.Path.{below, owns, well_formed}
use Rattle.image.specs.Entry.{Message, puts, drops, clears}
use Rattle.image.specs.Table.{Row, with_row, without, without_below, every_key, under_prefix}
use Rattle.image.specs.Image.{Tree, unread, leaf, interior, Forest, end, tree}
use Rattle.image.specs.Meaning.{high_of, apply, apply_all, rows, rows_in}
use Rattle.image.specs.Sound.{sound_tree, sound_forest, sound_message, first_pivot}
use Rattle.octets.specs.Order.{and_left, and_right, not_so, not-true, not-false, same-eq, same_false, same_turn, before-le, before-not-same, begins-split, before-asym, before-trans, begins-trans, begins-either, drop-beyond, refuted}
use Rattle.laws.specs.LookupTable.{parts, outside, later-none, not_low, under-high, does-own, too-low}
use Rattle.laws.specs.RowsRising.{every-key, not_before}
use Rattle.laws.specs.Rising.{one_key}
use Rattle.laws.specs.Shift.{under-apply}
use Rattle.laws.specs.Filter.{every-imp, owned-begins}

-- a message added as the newest
pub all_append : (l : List ℕ) (ms : List Message) (m : Message) (t : List Row) → apply_all l (ms ++ m ∷ []) t ≡ apply l m (apply_all l ms t)
unfolding apply_all
all_append l [] m t = refl
all_append l (x ∷ ms) m t = all_append l ms m (apply l x t)

-- a message that a node takes: an interior node as its newest, a leaf at once
unfoldable pub taken : Message → Tree → Tree
taken m (unread i) = unread i
taken m (leaf i rs) = leaf i (apply [] m rs)
taken m (interior i f ms) = interior i f (ms ++ m ∷ [])

-- what that does to its table
pub apply-nil-under : (l : List ℕ) (m : Message) (t : List Row) → under_prefix l (apply [] m t) ≡ apply l m (under_prefix l t)
apply-nil-under l m t = sym (under-apply l [] m t) ∙ rw (append-nil l)

pub taken-rows : (m : Message) (t : Tree) (lo hi : List ℕ) → sound_tree t lo hi ≡ true → rows (taken m t) lo hi ≡ apply (shared lo hi) m (rows t lo hi)
unfolding taken rows sound_tree
taken-rows m (unread i) lo hi e = absurd (false≢true e)
taken-rows m (leaf i rs) lo hi e = apply-nil-under (shared lo hi) m rs
taken-rows m (interior i f ms) lo hi e = all_append (shared lo hi) ms m (rows_in f (shared lo hi) hi)

-- a change of two tables, one after the other
pub without-append : (p : List ℕ) (t u : List Row) → without p (t ++ u) ≡ without p t ++ without p u
unfolding without
without-append p [] u = refl
without-append p (r ∷ t) u = cases (same p r.key) (λ e. rw e (without-append p t u)) (λ e. rw e (ap (λ l. r ∷ l) (without-append p t u)))

pub cleared-append : (p : List ℕ) (t u : List Row) → without_below p (t ++ u) ≡ without_below p t ++ without_below p u
unfolding without_below
cleared-append p [] u = refl
cleared-append p (r ∷ t) u = cases (below r.key p) (λ e. rw e (cleared-append p t u)) (λ e. rw e (ap (λ l. r ∷ l) (cleared-append p t u)))

-- a put before all keys of the second table, or after all keys of the first
pub with_first : (p v : List ℕ) (t u : List Row) → every_key (λ k. before p k) u ≡ true → with_row p v (t ++ u) ≡ with_row p v t ++ u
unfolding with_row every_key
with_first p v [] [] h = refl
with_first p v [] (q ∷ u) h =
    let e : before p q.key ≡ true = and_left _ _ h in
    rw (before-asym p q.key e, same_turn q.key p (before-not-same p q.key e))
with_first p v (r ∷ t) u h = go (before r.key p) refl (same p r.key) refl (with_first p v t u h)
  where
    go : (x : Bool) → before r.key p ≡ x → (y : Bool) → same p r.key ≡ y → with_row p v (t ++ u) ≡ with_row p v t ++ u
        → with_row p v (r ∷ (t ++ u)) ≡ with_row p v (r ∷ t) ++ u
    go true e y f ih = rw e (ap (λ l. r ∷ l) ih)
    go false e true f ih = rw (e, f)
    go false e false f ih = rw (e, f)

pub with_second : (p v : List ℕ) (t u : List Row) → every_key (λ k. before k p) t ≡ true → with_row p v (t ++ u) ≡ t ++ with_row p v u
unfolding with_row every_key
with_second p v [] u h = refl
with_second p v (r ∷ t) u h = rw (and_left (before r.key p) _ h) (ap (λ l. r ∷ l) (with_second p v t u (and_right (before r.key p) _ h)))

-- a message that touches no key
without_other : (p : List ℕ) (t : List Row) → every_key (λ k. not (same p k)) t ≡ true → without p t ≡ t
unfolding without every_key
without_other p [] h = refl
without_other p (r ∷ t) h =
    rw (not-true (same p r.key) (and_left _ _ h)) (ap (λ l. r ∷ l) (without_other p t (and_right (not (same p r.key)) _ h)))

cleared-other : (p : List ℕ) (t : List Row) → every_key (λ k. not (below k p)) t ≡ true → without_below p t ≡ t
unfolding without_below every_key
cleared-other p [] h = refl
cleared-other p (r ∷ t) h =
    rw (not-true (below r.key p) (and_left _ _ h)) (ap (λ l. r ∷ l) (cleared-other p t (and_right (not (below r.key p)) _ h)))

cleared-all : (p : List ℕ) (t : List Row) → every_key (λ k. below k p) t ≡ true → without_below p t ≡ []
unfolding without_below every_key
cleared-all p [] h = refl
cleared-all p (r ∷ t) h = rw (and_left (below r.key p) _ h) (cleared-all p t (and_right (below r.key p) _ h))

-- A message with its full path: whether it touches what a child owns, and the child's own form of it.
unfoldable pub touches : Message → List ℕ → List ℕ → Bool
touches (puts p v) lo hi = owns lo hi p
touches (drops p) lo hi = owns lo hi p
touches (clears p) lo hi = begins p (shared lo hi) || begins (shared lo hi) p

unfoldable pub lowered : List ℕ → Message → Message
lowered l (puts p v) = puts (drop (length l) p) v
lowered l (drops p) = drops (drop (length l) p)
lowered l (clears p) = clears (drop (length l) p)

unfoldable pub sent : Message → Tree → List ℕ → List ℕ → Tree
sent m t lo hi = cond (touches m lo hi) (taken (lowered (shared lo hi) m) t) t

unfoldable pub pushed : Message → Forest → List ℕ → List ℕ → Forest
pushed m end lifted hi = end
pushed m (tree s t f) lifted hi = tree s (sent m t (lifted ++ s) (high_of lifted hi f)) (pushed m f lifted hi)

-- the keys of a child's table are owned by it, and begin with what it lifts
pub keys-owned : (t : Tree) (lo hi : List ℕ) → sound_tree t lo hi ≡ true → every_key (owns lo hi) (rows t lo hi) ≡ true
keys-owned t lo hi e = every-key (owns lo hi) (rows t lo hi) (λ q n. outside t lo hi q e n)

-- put: the child that owns the path takes it
pub sent-put : (p v : List ℕ) (t : Tree) (lo hi : List ℕ) → sound_tree t lo hi ≡ true → owns lo hi p ≡ true
    → rows (sent (puts p v) t lo hi) lo hi ≡ with_row p v (rows t lo hi)
unfolding sent touches lowered apply
sent-put p v t lo hi e o =
    rw o (taken-rows (puts (drop (length (shared lo hi)) p) v) t lo hi e
    ∙ ap (λ q. with_row q v (rows t lo hi)) (begins-split (shared lo hi) p (owned-begins lo hi p o)))

sent-put-not : (p v : List ℕ) (t : Tree) (lo hi : List ℕ) → owns lo hi p ≡ false → sent (puts p v) t lo hi ≡ t
unfolding sent touches
sent-put-not p v t lo hi o = rw o

-- drop and clear: every child's table changes as the whole does
pub sent-drop : (p : List ℕ) (t : Tree) (lo hi : List ℕ) → sound_tree t lo hi ≡ true → rows (sent (drops p) t lo hi) lo hi ≡ without p (rows t lo hi)
unfolding sent touches lowered apply
sent-drop p t lo hi e = go (owns lo hi p) refl
  where
    go : (x : Bool) → owns lo hi p ≡ x → rows (sent (drops p) t lo hi) lo hi ≡ without p (rows t lo hi)
    go true o =
        rw o (taken-rows (drops (drop (length (shared lo hi)) p)) t lo hi e
        ∙ ap (λ q. without q (rows t lo hi)) (begins-split (shared lo hi) p (owned-begins lo hi p o)))
    go false o =
        rw o (sym (without_other p (rows t lo hi)
        (every-imp (owns lo hi) (λ k. not (same p k)) (rows t lo hi)
        (λ k h. not-false (same p k) (same_false p k (λ z. not_so (rw z h) o))) (keys-owned t lo hi e))))

pub sent-clear : (p : List ℕ) (t : Tree) (lo hi : List ℕ) → sound_tree t lo hi ≡ true → rows (sent (clears p) t lo hi) lo hi ≡ without_below p (rows t lo hi)
unfolding sent touches lowered apply below
sent-clear p t lo hi e = go (begins p (shared lo hi)) refl (begins (shared lo hi) p) refl
  where
    keys : every_key (λ k. begins (shared lo hi) k) (rows t lo hi) ≡ true
    keys = every-imp (owns lo hi) (λ k. begins (shared lo hi) k) (rows t lo hi) (λ k h. owned-begins lo hi k h) (keys-owned t lo hi e)

    go : (x : Bool) → begins p (shared lo hi) ≡ x → (y : Bool) → begins (shared lo hi) p ≡ y
        → rows (sent (clears p) t lo hi) lo hi ≡ without_below p (rows t lo hi)
    go true a y b =
        rw a (taken-rows (clears (drop (length (shared lo hi)) p)) t lo hi e
        ∙ rw (drop-beyond p (shared lo hi) a, append-nil (shared lo hi))
        (cleared-all (shared lo hi) (rows t lo hi) keys
        ∙ sym (cleared-all p (rows t lo hi)
        (every-imp (λ k. begins (shared lo hi) k) (λ k. begins p k) (rows t lo hi) (λ k h. begins-trans p (shared lo hi) k a h) keys))))
    go false a true b =
        rw (a, b) (taken-rows (clears (drop (length (shared lo hi)) p)) t lo hi e
        ∙ ap (λ q. without_below q (rows t lo hi)) (begins-split (shared lo hi) p b))
    go false a false b =
        rw (a, b) (sym (cleared-other p (rows t lo hi)
        (every-imp (λ k. begins (shared lo hi) k) (λ k. not (begins p k)) (rows t lo hi) (λ k h. not-false (begins p k) (apart k h)) keys)))
      where
        apart : (k : List ℕ) → begins (shared lo hi) k ≡ true → begins p k ≡ false
        apart k h = refuted (λ c. not_so (begins-either p (shared lo hi) k c h) (rw (a, b)))

-- pushing leaves the pivots
pub high-pushed : (m : Message) (f : Forest) (lifted hi l h : List ℕ) → high_of l h (pushed m f lifted hi) ≡ high_of l h f
unfolding pushed high_of
high-pushed m end lifted hi l h = refl
high-pushed m (tree s t f) lifted hi l h = refl

pushed-drop : (p : List ℕ) (f : Forest) (lifted lo hi : List ℕ) → sound_forest f lifted lo hi ≡ true
    → rows_in (pushed (drops p) f lifted hi) lifted hi ≡ without p (rows_in f lifted hi)
unfolding pushed rows_in without
pushed-drop p end lifted lo hi e = refl
pushed-drop p (tree s t f) lifted lo hi e =
    rw (high-pushed (drops p) f lifted hi lifted hi)
    (ap₂ (λ a b. a ++ b) (sent-drop p t (lifted ++ s) (high_of lifted hi f) (parts s t f lifted lo hi e).first)
    (pushed-drop p f lifted lo hi (parts s t f lifted lo hi e).later)
    ∙ sym (without-append p (rows t (lifted ++ s) (high_of lifted hi f)) (rows_in f lifted hi)))

pushed-clear : (p : List ℕ) (f : Forest) (lifted lo hi : List ℕ) → sound_forest f lifted lo hi ≡ true
    → rows_in (pushed (clears p) f lifted hi) lifted hi ≡ without_below p (rows_in f lifted hi)
unfolding pushed rows_in without_below
pushed-clear p end lifted lo hi e = refl
pushed-clear p (tree s t f) lifted lo hi e =
    rw (high-pushed (clears p) f lifted hi lifted hi)
    (ap₂ (λ a b. a ++ b) (sent-clear p t (lifted ++ s) (high_of lifted hi f) (parts s t f lifted lo hi e).first)
    (pushed-clear p f lifted lo hi (parts s t f lifted lo hi e).later)
    ∙ sym (cleared-append p (rows t (lifted ++ s) (high_of lifted hi f)) (rows_in f lifted hi)))

-- a put before the first pivot of the children stays away from them
pushed-not : (p v : List ℕ) (f : Forest) (lifted lo hi : List ℕ) → sound_forest f lifted lo hi ≡ true → before p (high_of lifted hi f) ≡ true
    → pushed (puts p v) f lifted hi ≡ f
unfolding pushed high_of
pushed-not p v end lifted lo hi e b = refl
pushed-not p v (tree s t f) lifted lo hi e b =
    ap₂ (λ x y. tree s x y)
    (sent-put-not p v t (lifted ++ s) (high_of lifted hi f) (too-low (lifted ++ s) (high_of lifted hi f) p b))
    (pushed-not p v f lifted lo hi (parts s t f lifted lo hi e).later
    (before-trans p (lifted ++ s) (high_of lifted hi f) b (parts s t f lifted lo hi e).rises))

-- the keys of the children after a pivot come after it
later-keys : (p : List ℕ) (f : Forest) (lifted lo hi : List ℕ) → sound_forest f lifted lo hi ≡ true → before p (high_of lifted hi f) ≡ true
    → every_key (λ k. before p k) (rows_in f lifted hi) ≡ true
later-keys p f lifted lo hi e b =
    every-key (λ k. before p k) (rows_in f lifted hi) (λ q n. later-none f lifted lo hi q e (lower q n))
  where
    -- not p < q, and p < high: q < high
    lower : (q : List ℕ) → before p q ≡ false → before q (high_of lifted hi f) ≡ true
    lower q n = cases (before q p) (λ c. before-trans q p (high_of lifted hi f) c b) (λ c. rw (one_key q p c n) b)

-- put: the one child that owns the path takes it
pushed-put : (p v : List ℕ) (f : Forest) (lifted lo hi : List ℕ) → sound_forest f lifted lo hi ≡ true → before p hi ≡ true
    → before p (high_of lifted hi f) ≡ false → rows_in (pushed (puts p v) f lifted hi) lifted hi ≡ with_row p v (rows_in f lifted hi)
unfolding pushed rows_in high_of
pushed-put p v end lifted lo hi e b n = not_so b n
pushed-put p v (tree s t f) lifted lo hi e b n =
    rw (high-pushed (puts p v) f lifted hi lifted hi) (go (before p (high_of lifted hi f)) refl (λ h. pushed-put p v f lifted lo hi (parts s t f lifted lo hi e).later b h))
  where
    go : (x : Bool) → before p (high_of lifted hi f) ≡ x
        → (before p (high_of lifted hi f) ≡ false → rows_in (pushed (puts p v) f lifted hi) lifted hi ≡ with_row p v (rows_in f lifted hi))
        → rows (sent (puts p v) t (lifted ++ s) (high_of lifted hi f)) (lifted ++ s) (high_of lifted hi f) ++ rows_in (pushed (puts p v) f lifted hi) lifted hi
        ≡ with_row p v (rows t (lifted ++ s) (high_of lifted hi f) ++ rows_in f lifted hi)
    go true c ih =
        ap₂ (λ a d. a ++ rows_in d lifted hi)
        (sent-put p v t (lifted ++ s) (high_of lifted hi f) (parts s t f lifted lo hi e).first (does-own (lifted ++ s) (high_of lifted hi f) p n c))
        (pushed-not p v f lifted lo hi (parts s t f lifted lo hi e).later c)
        ∙ sym (with_first p v (rows t (lifted ++ s) (high_of lifted hi f)) (rows_in f lifted hi) (later-keys p f lifted lo hi (parts s t f lifted lo hi e).later c))
    go false c ih =
        ap₂ (λ a d. rows a (lifted ++ s) (high_of lifted hi f) ++ d)
        (sent-put-not p v t (lifted ++ s) (high_of lifted hi f) (not_before (lifted ++ s) (high_of lifted hi f) p c))
        (ih c)
        ∙ sym (with_second p v (rows t (lifted ++ s) (high_of lifted hi f)) (rows_in f lifted hi)
        (every-imp (owns (lifted ++ s) (high_of lifted hi f)) (λ k. before k p) (rows t (lifted ++ s) (high_of lifted hi f))
        (λ k h. before-le k (high_of lifted hi f) p (under-high (lifted ++ s) (high_of lifted hi f) k h) c)
        (keys-owned t (lifted ++ s) (high_of lifted hi f) (parts s t f lifted lo hi e).first)))

-- a node's message with the lifted prefix in front
unfoldable pub raised : List ℕ → Message → Message
raised l (puts s v) = puts (l ++ s) v
raised l (drops s) = drops (l ++ s)
raised l (clears s) = clears (l ++ s)

pub put-owned : (s v lo hi : List ℕ) → sound_message lo hi (puts s v) ≡ true → owns lo hi (shared lo hi ++ s) ≡ true
unfolding sound_message
put-owned s v lo hi e = and_right (well_formed (shared lo hi ++ s)) _ (and_left _ _ e)

-- the children's first pivot is the node's low one
pub first-low : (f : Forest) (lo hi p : List ℕ) → first_pivot (shared lo hi) lo f ≡ true → before p lo ≡ false → before p (high_of (shared lo hi) hi f) ≡ false
unfolding first_pivot high_of
first-low end lo hi p e b = absurd (false≢true e)
first-low (tree s t f) lo hi p e b = rw (same-eq (shared lo hi ++ s) lo e) b

pub push-apply : (m : Message) (f : Forest) (lo hi : List ℕ) → first_pivot (shared lo hi) lo f ≡ true → sound_forest f (shared lo hi) lo hi ≡ true
    → sound_message lo hi m ≡ true
    → rows_in (pushed (raised (shared lo hi) m) f (shared lo hi) hi) (shared lo hi) hi ≡ apply (shared lo hi) m (rows_in f (shared lo hi) hi)
unfolding raised apply
push-apply (puts s v) f lo hi a e w =
    pushed-put (shared lo hi ++ s) v f (shared lo hi) lo hi e (under-high lo hi (shared lo hi ++ s) (put-owned s v lo hi w))
    (first-low f lo hi (shared lo hi ++ s) a (not_low lo hi (shared lo hi ++ s) (put-owned s v lo hi w)))
push-apply (drops s) f lo hi a e w = pushed-drop (shared lo hi ++ s) f (shared lo hi) lo hi e
push-apply (clears s) f lo hi a e w = pushed-clear (shared lo hi ++ s) f (shared lo hi) lo hi e
