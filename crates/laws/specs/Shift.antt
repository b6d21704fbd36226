-- A tree under other bytes: with `prefix` in front of both pivots, its table has `prefix` in front of each path. (A pointer swing from `prefix` to
-- `another`.)
use Rattle.std.specs.Prelude.{ℕ, ◌≡◌, refl, List, [], ◌∷◌, ◌++◌, Bool, true, false, cond, length, drop}
use Rattle.image.specs.Prelude.{ap, ap₂, ◌∙◌, append_assoc, length-append, drop-append-add, cases}
use Rattle.image.specs.Bytes.{same, before, begins, shared}
use Rattle.image.specs.Path.{below, owns}
use Rattle.image.specs.Entry.{Message, puts, drops, clears}
use Rattle.image.specs.Table.{Row, with_row, without, without_below, under_prefix}
use Rattle.image.specs.Image.{Tree, unread, leaf, interior, Forest, end, tree}
use Rattle.image.specs.Meaning.{high_of, newest, decide, lookup, lookup_in, apply, apply_all, rows, rows_in}
use Rattle.octets.specs.Order.{same-append, begins-append, before-append, shared-append}

module _ (prefix : List ℕ) where
  abbrev under_row : Row → Row
  under_row r = record { key = prefix ++ r.key; value = r.value }

  pub under-with : (p v : List ℕ) (t : List Row) → with_row (prefix ++ p) v (under_prefix prefix t) ≡ under_prefix prefix (with_row p v t)
  unfolding with_row under_prefix
  under-with p v [] = refl
  under-with p v (r ∷ t) = go (before r.key p) refl (same p r.key) refl (under-with p v t)
    where
      go : (x : Bool) → before r.key p ≡ x → (y : Bool) → same p r.key ≡ y → with_row (prefix ++ p) v (under_prefix prefix t) ≡ under_prefix prefix (with_row p v t)
          → with_row (prefix ++ p) v (under_prefix prefix (r ∷ t)) ≡ under_prefix prefix (with_row p v (r ∷ t))
      go true e y f ih = rw (before-append prefix r.key p, e) (ap (λ l. under_row r ∷ l) ih)
      go false e true f ih = rw (before-append prefix r.key p, same-append prefix p r.key, e, f)
      go false e false f ih = rw (before-append prefix r.key p, same-append prefix p r.key, e, f)

  pub under-without : (p : List ℕ) (t : List Row) → without (prefix ++ p) (under_prefix prefix t) ≡ under_prefix prefix (without p t)
  unfolding without under_prefix
  under-without p [] = refl
  under-without p (r ∷ t) =
      cases (same p r.key) (λ e. rw (same-append prefix p r.key, e) (under-without p t))
      (λ e. rw (same-append prefix p r.key, e) (ap (λ l. under_row r ∷ l) (under-without p t)))

  pub under-cleared : (p : List ℕ) (t : List Row) → without_below (prefix ++ p) (under_prefix prefix t) ≡ under_prefix prefix (without_below p t)
  unfolding without_below under_prefix below
  under-cleared p [] = refl
  under-cleared p (r ∷ t) =
      cases (begins p r.key) (λ e. rw (begins-append prefix p r.key, e) (under-cleared p t))
      (λ e. rw (begins-append prefix p r.key, e) (ap (λ l. under_row r ∷ l) (under-cleared p t)))

  pub under-append : (t u : List Row) → under_prefix prefix t ++ under_prefix prefix u ≡ under_prefix prefix (t ++ u)
  unfolding under_prefix
  under-append [] u = refl
  under-append (r ∷ t) u = ap (λ l. under_row r ∷ l) (under-append t u)

  pub under-under : (l : List ℕ) (t : List Row) → under_prefix (prefix ++ l) t ≡ under_prefix prefix (under_prefix l t)
  unfolding under_prefix
  under-under l [] = refl
  under-under l (r ∷ t) = rw (append_assoc prefix l r.key) (ap (λ u. record { key = prefix ++ (l ++ r.key); value = r.value } ∷ u) (under-under l t))

  pub under-apply : (l : List ℕ) (m : Message) (t : List Row) → apply (prefix ++ l) m (under_prefix prefix t) ≡ under_prefix prefix (apply l m t)
  unfolding apply
  under-apply l (puts s v) t = rw (append_assoc prefix l s) (under-with (l ++ s) v t)
  under-apply l (drops s) t = rw (append_assoc prefix l s) (under-without (l ++ s) t)
  under-apply l (clears s) t = rw (append_assoc prefix l s) (under-cleared (l ++ s) t)

  pub under_all : (l : List ℕ) (ms : List Message) (t : List Row) → apply_all (prefix ++ l) ms (under_prefix prefix t) ≡ under_prefix prefix (apply_all l ms t)
  unfolding apply_all
  under_all l [] t = refl
  under_all l (m ∷ ms) t = ap (λ u. apply_all (prefix ++ l) ms u) (under-apply l m t) ∙ under_all l ms (apply l m t)

  nil-shift : [] ≡ under_prefix prefix []
  unfolding under_prefix
  nil-shift = refl

  pub high-shift : (l hi : List ℕ) (f : Forest) → high_of (prefix ++ l) (prefix ++ hi) f ≡ prefix ++ high_of l hi f
  unfolding high_of
  high-shift l hi end = refl
  high-shift l hi (tree s t f) = append_assoc prefix l s

  mutual
    unfolding rows rows_in

    pub rows-shift : (t : Tree) (lo hi : List ℕ) → rows t (prefix ++ lo) (prefix ++ hi) ≡ under_prefix prefix (rows t lo hi)
    rows-shift (unread i) lo hi = nil-shift
    rows-shift (leaf i rs) lo hi = rw (shared-append prefix lo hi) (under-under (shared lo hi) rs)
    rows-shift (interior i f ms) lo hi =
        rw (shared-append prefix lo hi)
        (ap (λ u. apply_all (prefix ++ shared lo hi) ms u) (rows-shift-in f (shared lo hi) hi) ∙ under_all (shared lo hi) ms (rows_in f (shared lo hi) hi))

    pub rows-shift-in : (f : Forest) (l hi : List ℕ) → rows_in f (prefix ++ l) (prefix ++ hi) ≡ under_prefix prefix (rows_in f l hi)
    rows-shift-in end l hi = nil-shift
    rows-shift-in (tree s t f) l hi =
        rw (append_assoc prefix l s, high-shift l hi f)
        (ap₂ (λ a b. a ++ b) (rows-shift t (l ++ s) (high_of l hi f)) (rows-shift-in f l hi)
        ∙ under-append (rows t (l ++ s) (high_of l hi f)) (rows_in f l hi))

  pub drop-shift : (l q : List ℕ) → drop (length (prefix ++ l)) (prefix ++ q) ≡ drop (length l) q
  drop-shift l q = rw (length-append prefix l) (drop-append-add prefix q (length l))

  pub owns-shift : (lo hi q : List ℕ) → owns (prefix ++ lo) (prefix ++ hi) (prefix ++ q) ≡ owns lo hi q
  unfolding owns
  owns-shift lo hi q = rw (before-append prefix q lo, before-append prefix q hi)

  -- lookup needs only what stands after the bytes that all three share: the rest of the path can be handed to the child
  mutual
    unfolding lookup lookup_in

    pub lookup-shift : (t : Tree) (lo hi q : List ℕ) → lookup t (prefix ++ lo) (prefix ++ hi) (prefix ++ q) ≡ lookup t lo hi q
    lookup-shift (unread i) lo hi q = refl
    lookup-shift (leaf i rs) lo hi q = rw (shared-append prefix lo hi, drop-shift (shared lo hi) q)
    lookup-shift (interior i f ms) lo hi q =
        rw (shared-append prefix lo hi, drop-shift (shared lo hi) q)
        (ap (λ d. decide (newest ms (drop (length (shared lo hi)) q)) d) (lookup-shift-in f (shared lo hi) hi q))

    pub lookup-shift-in : (f : Forest) (l hi q : List ℕ) → lookup_in f (prefix ++ l) (prefix ++ hi) (prefix ++ q) ≡ lookup_in f l hi q
    lookup-shift-in end l hi q = refl
    lookup-shift-in (tree s t f) l hi q =
        rw (append_assoc prefix l s, high-shift l hi f, owns-shift (l ++ s) (high_of l hi f) q)
        (ap₂ (λ a b. cond (owns (l ++ s) (high_of l hi f) q) a b) (lookup-shift t (l ++ s) (high_of l hi f) q) (lookup-shift-in f l hi q))
