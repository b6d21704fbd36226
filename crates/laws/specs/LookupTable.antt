-- The table of a sound tree holds just what lookup finds.
use Rattle.std.specs.Prelude.{ℕ, ◌≡◌, refl, List, [], ◌∷◌, ◌++◌, Bool, true, false, ◌&&◌, not, length, drop}
use Rattle.image.specs.Prelude.{sym, ap, ◌∙◌, false≢true, Option, none, cases}
use Rattle.image.specs.Bytes.{same, before, begins, shared}
use Rattle.image.specs.Path.{well_formed, owns}
use Rattle.image.specs.Entry.{Message, puts, drops, clears}
use Rattle.image.specs.Table.{Row, find, under_prefix, every_key}
use Rattle.image.specs.Image.{Tree, unread, leaf, interior, Forest, end, tree, tree_of}
use Rattle.image.specs.Meaning.{Said, nothing, says, says_of, newer, newest, decide, high_of, lookup, lookup_in, apply, apply_all, rows, rows_in}
use Rattle.image.specs.Sound.{sound_message, sound_messages, sound_tree, sound_forest, first_pivot, highest, sound, value_in, table_of}
use Rattle.octets.specs.Order.{and_left, and_right, not_so, not-true, same-eq, same_false, same_turn, before-le, before-trans, between-begins, begins-split, same-append, begins-append, refuted}
use Rattle.laws.specs.Tables.{find-nil, find-with, find-with-other, find-without, find-without-other, find-cleared, find-spared, find-append-none, find-append-some, find-under, find-fails}
use Rattle.laws.specs.ButLive.{sound-parts}

-- one message: what is found in the table after it
apply-find : (l q : List ℕ) (m : Message) (t : List Row) → find (l ++ q) (apply l m t) ≡ decide (says_of m q) (find (l ++ q) t)
unfolding apply decide says_of
apply-find l q (puts s v) t =
    cases (same s q) (λ e. rw e (rw (same-eq s q e) (find-with (l ++ q) v t)))
    (λ e. rw e (find-with-other (l ++ q) (l ++ s) v t (same-append l q s ∙ same_turn s q e)))
apply-find l q (drops s) t =
    cases (same s q) (λ e. rw e (rw (same-eq s q e) (find-without (l ++ q) t)))
    (λ e. rw e (find-without-other (l ++ q) (l ++ s) t (same-append l q s ∙ same_turn s q e)))
apply-find l q (clears s) t =
    cases (begins s q) (λ e. rw e (find-cleared (l ++ q) (l ++ s) t (begins-append l s q ∙ e)))
    (λ e. rw e (find-spared (l ++ q) (l ++ s) t (begins-append l s q ∙ e)))

decide-newer : (old new : Said) (d : Option (List ℕ)) → decide new (decide old d) ≡ decide (newer old new) d
unfolding decide newer
decide-newer old nothing d = refl
decide-newer old (says v) d = refl

-- all of a node's messages, oldest first
pub all-find : (l q : List ℕ) (ms : List Message) (t : List Row) → find (l ++ q) (apply_all l ms t) ≡ decide (newest ms q) (find (l ++ q) t)
unfolding apply_all newest decide
all-find l q [] t = refl
all-find l q (m ∷ ms) t =
    all-find l q ms (apply l m t)
    ∙ ap (λ d. decide (newest ms q) d) (apply-find l q m t)
    ∙ decide-newer (says_of m q) (newest ms q) (find (l ++ q) t)

-- lo ≤ q < hi, as two tests
pub not_low : (lo hi q : List ℕ) → owns lo hi q ≡ true → before q lo ≡ false
unfolding owns
not_low lo hi q e = not-true (before q lo) (and_left _ _ e)

pub under-high : (lo hi q : List ℕ) → owns lo hi q ≡ true → before q hi ≡ true
unfolding owns
under-high lo hi q e = and_right (not (before q lo)) _ e

pub does-own : (lo hi q : List ℕ) → before q lo ≡ false → before q hi ≡ true → owns lo hi q ≡ true
unfolding owns
does-own lo hi q e f = rw (e, f)

-- a path that the larger range does not own is not owned by a range inside it
pub inside-not : (lo hi c e q : List ℕ) → before c lo ≡ false → (before q e ≡ true → before q hi ≡ true) → owns lo hi q ≡ false → owns c e q ≡ false
inside-not lo hi c e q a b n = refuted (λ f. not_so (does-own lo hi q (refuted (λ g. not_so (before-le q lo c g a) (not_low c e q f))) (b (under-high c e q f))) n)

-- a message of a sound node finds nothing new outside
pub apply-none : (lo hi q : List ℕ) (m : Message) (t : List Row) → sound_message lo hi m ≡ true → owns lo hi q ≡ false
    → find q t ≡ none → find q (apply (shared lo hi) m t) ≡ none
unfolding apply sound_message
apply-none lo hi q (puts s v) t h n e =
    find-with-other q (shared lo hi ++ s) v t
    (same_false q (shared lo hi ++ s) (λ z. not_so (rw z (and_right (well_formed (shared lo hi ++ s)) _ (and_left _ _ h))) n))
    ∙ e
apply-none lo hi q (drops s) t h n e =
    find-without-other q (shared lo hi ++ s) t
    (same_false q (shared lo hi ++ s) (λ z. not_so (rw z (and_right (well_formed (shared lo hi ++ s)) _ h)) n))
    ∙ e
apply-none lo hi q (clears s) t h n e =
    cases (begins (shared lo hi ++ s) q) (λ f. find-cleared q (shared lo hi ++ s) t f)
    (λ f. find-spared q (shared lo hi ++ s) t f ∙ e)

pub all_none : (lo hi q : List ℕ) (ms : List Message) (t : List Row) → sound_messages lo hi ms ≡ true → owns lo hi q ≡ false
    → find q t ≡ none → find q (apply_all (shared lo hi) ms t) ≡ none
unfolding apply_all sound_messages
all_none lo hi q [] t h n e = e
all_none lo hi q (m ∷ ms) t h n e =
    all_none lo hi q ms (apply (shared lo hi) m t) (and_right (sound_message lo hi m) _ h) n (apply-none lo hi q m t (and_left _ _ h) n e)

-- the parts of a sound list of children, and of a sound interior node
pub record Parts (s : List ℕ) (t : Tree) (f : Forest) (lifted lo hi : List ℕ) : Type 0 where
  pub owned : owns lo hi (lifted ++ s) ≡ true
  pub rises : before (lifted ++ s) (high_of lifted hi f) ≡ true
  pub first : sound_tree t (lifted ++ s) (high_of lifted hi f) ≡ true
  pub later : sound_forest f lifted lo hi ≡ true

pub parts : (s : List ℕ) (t : Tree) (f : Forest) (lifted lo hi : List ℕ) → sound_forest (tree s t f) lifted lo hi ≡ true → Parts s t f lifted lo hi
unfolding sound_forest
parts s t f lifted lo hi e =
    let a : owns lo hi (lifted ++ s) && before (lifted ++ s) (high_of lifted hi f) && sound_tree t (lifted ++ s) (high_of lifted hi f) ≡ true = and_left _ _ e in
    let b : owns lo hi (lifted ++ s) && before (lifted ++ s) (high_of lifted hi f) ≡ true = and_left _ _ a in
    record {
      owned = and_left _ _ b;
      rises = and_right (owns lo hi (lifted ++ s)) _ b;
      first = and_right (owns lo hi (lifted ++ s) && before (lifted ++ s) (high_of lifted hi f)) _ a;
      later = and_right (owns lo hi (lifted ++ s) && before (lifted ++ s) (high_of lifted hi f) && sound_tree t (lifted ++ s) (high_of lifted hi f)) _ e;
    }

pub record Inner (f : Forest) (ms : List Message) (lo hi : List ℕ) : Type 0 where
  pub branches : sound_forest f (shared lo hi) lo hi ≡ true
  pub wait : sound_messages lo hi ms ≡ true

pub inner : (i : ℕ) (f : Forest) (ms : List Message) (lo hi : List ℕ) → sound_tree (interior i f ms) lo hi ≡ true → Inner f ms lo hi
unfolding sound_tree
inner i f ms lo hi e =
    record {
      branches = and_right (first_pivot (shared lo hi) lo f) _ (and_left _ _ e);
      wait = and_right (first_pivot (shared lo hi) lo f && sound_forest f (shared lo hi) lo hi) _ e;
    }

pub leaf-owned : (i : ℕ) (rs : List Row) (lo hi : List ℕ) → sound_tree (leaf i rs) lo hi ≡ true → every_key (owns lo hi) (under_prefix (shared lo hi) rs) ≡ true
unfolding sound_tree
leaf-owned i rs lo hi e = and_right (every_key well_formed (under_prefix (shared lo hi) rs)) _ (and_left _ _ (and_left _ _ e))

pub high-under : (f : Forest) (lifted lo hi q : List ℕ) → sound_forest f lifted lo hi ≡ true → before q (high_of lifted hi f) ≡ true → before q hi ≡ true
unfolding high_of
high-under end lifted lo hi q e b = b
high-under (tree s t f) lifted lo hi q e b =
    before-trans q (lifted ++ s) hi b (under-high lo hi (lifted ++ s) (parts s t f lifted lo hi e).owned)

-- nothing is found outside what a sound tree owns
mutual
  unfolding rows rows_in

  pub outside : (t : Tree) (lo hi q : List ℕ) → sound_tree t lo hi ≡ true → owns lo hi q ≡ false → find q (rows t lo hi) ≡ none
  outside (unread i) lo hi q e n = find-nil q
  outside (leaf i rs) lo hi q e n = find-fails (owns lo hi) q (under_prefix (shared lo hi) rs) (leaf-owned i rs lo hi e) n
  outside (interior i f ms) lo hi q e n =
      all_none lo hi q ms (rows_in f (shared lo hi) hi) (inner i f ms lo hi e).wait n
      (outside-in f (shared lo hi) lo hi q (inner i f ms lo hi e).branches n)

  pub outside-in : (f : Forest) (lifted lo hi q : List ℕ) → sound_forest f lifted lo hi ≡ true → owns lo hi q ≡ false → find q (rows_in f lifted hi) ≡ none
  outside-in end lifted lo hi q e n = find-nil q
  outside-in (tree s t f) lifted lo hi q e n =
      find-append-none q (rows t (lifted ++ s) (high_of lifted hi f)) (rows_in f lifted hi)
      (outside t (lifted ++ s) (high_of lifted hi f) q (parts s t f lifted lo hi e).first
      (inside-not lo hi (lifted ++ s) (high_of lifted hi f) q (not_low lo hi (lifted ++ s) (parts s t f lifted lo hi e).owned)
      (high-under f lifted lo hi q (parts s t f lifted lo hi e).later) n))
      ∙ outside-in f lifted lo hi q (parts s t f lifted lo hi e).later n

pub too-low : (c e q : List ℕ) → before q c ≡ true → owns c e q ≡ false
unfolding owns
too-low c e q b = rw b

-- a path before the children's first pivot is in none of them
pub later-none : (f : Forest) (lifted lo hi q : List ℕ) → sound_forest f lifted lo hi ≡ true → before q (high_of lifted hi f) ≡ true
    → find q (rows_in f lifted hi) ≡ none
unfolding rows_in high_of
later-none end lifted lo hi q e b = find-nil q
later-none (tree s t f) lifted lo hi q e b =
    find-append-none q (rows t (lifted ++ s) (high_of lifted hi f)) (rows_in f lifted hi)
    (outside t (lifted ++ s) (high_of lifted hi f) q (parts s t f lifted lo hi e).first (too-low (lifted ++ s) (high_of lifted hi f) q b))
    ∙ later-none f lifted lo hi q (parts s t f lifted lo hi e).later
    (before-trans q (lifted ++ s) (high_of lifted hi f) b (parts s t f lifted lo hi e).rises)

-- what a node's lookup takes from its messages, or from below
lookup-decide : (i : ℕ) (f : Forest) (ms : List Message) (lo hi p : List ℕ)
    → lookup (interior i f ms) lo hi p ≡ decide (newest ms (drop (length (shared lo hi)) p)) (lookup_in f (shared lo hi) hi p)
unfolding lookup decide
lookup-decide i f ms lo hi p = refl

-- the path is what the node lifts, and the rest
pub split : (lo hi p : List ℕ) → owns lo hi p ≡ true → shared lo hi ++ drop (length (shared lo hi)) p ≡ p
split lo hi p o = begins-split (shared lo hi) p (between-begins lo hi p (not_low lo hi p o) (under-high lo hi p o))

lookup-unread : (i : ℕ) (lo hi p : List ℕ) → lookup (unread i) lo hi p ≡ none
unfolding lookup
lookup-unread i lo hi p = refl

lookup-leaf : (i : ℕ) (rs : List Row) (lo hi p : List ℕ) → lookup (leaf i rs) lo hi p ≡ find (drop (length (shared lo hi)) p) rs
unfolding lookup
lookup-leaf i rs lo hi p = refl

lookup-end : (lifted hi p : List ℕ) → lookup_in end lifted hi p ≡ none
unfolding lookup_in
lookup-end lifted hi p = refl

lookup-here : (s : List ℕ) (t : Tree) (f : Forest) (lifted hi p : List ℕ) → owns (lifted ++ s) (high_of lifted hi f) p ≡ true
    → lookup_in (tree s t f) lifted hi p ≡ lookup t (lifted ++ s) (high_of lifted hi f) p
unfolding lookup_in
lookup-here s t f lifted hi p e = rw e

lookup-on : (s : List ℕ) (t : Tree) (f : Forest) (lifted hi p : List ℕ) → owns (lifted ++ s) (high_of lifted hi f) p ≡ false
    → lookup_in (tree s t f) lifted hi p ≡ lookup_in f lifted hi p
unfolding lookup_in
lookup-on s t f lifted hi p e = rw e

-- the child that owns the path answers, or the later ones
child-find : (s : List ℕ) (t : Tree) (f : Forest) (lifted lo hi p : List ℕ) → sound_forest (tree s t f) lifted lo hi ≡ true
    → (owns (lifted ++ s) (high_of lifted hi f) p ≡ true → lookup t (lifted ++ s) (high_of lifted hi f) p ≡ find p (rows t (lifted ++ s) (high_of lifted hi f)))
    → lookup_in f lifted hi p ≡ find p (rows_in f lifted hi)
    → lookup_in (tree s t f) lifted hi p ≡ find p (rows t (lifted ++ s) (high_of lifted hi f) ++ rows_in f lifted hi)
child-find s t f lifted lo hi p e here on = go (owns (lifted ++ s) (high_of lifted hi f) p) refl
  where
    go : (x : Bool) → owns (lifted ++ s) (high_of lifted hi f) p ≡ x
        → lookup_in (tree s t f) lifted hi p ≡ find p (rows t (lifted ++ s) (high_of lifted hi f) ++ rows_in f lifted hi)
    go true o =
        lookup-here s t f lifted hi p o ∙ here o
        ∙ sym (find-append-some p (rows t (lifted ++ s) (high_of lifted hi f)) (rows_in f lifted hi)
        (later-none f lifted lo hi p (parts s t f lifted lo hi e).later (under-high (lifted ++ s) (high_of lifted hi f) p o)))
    go false o =
        lookup-on s t f lifted hi p o ∙ on
        ∙ sym (find-append-none p (rows t (lifted ++ s) (high_of lifted hi f)) (rows_in f lifted hi)
        (outside t (lifted ++ s) (high_of lifted hi f) p (parts s t f lifted lo hi e).first o))

-- Lookup finds what the table of the tree holds: of every path that begins with what the node lifts.
mutual
  unfolding rows rows_in

  pub lookup-find : (t : Tree) (lo hi p : List ℕ) → sound_tree t lo hi ≡ true → shared lo hi ++ drop (length (shared lo hi)) p ≡ p
      → lookup t lo hi p ≡ find p (rows t lo hi)
  lookup-find (unread i) lo hi p e o = lookup-unread i lo hi p ∙ sym (find-nil p)
  lookup-find (leaf i rs) lo hi p e o =
      lookup-leaf i rs lo hi p
      ∙ sym (find-under (shared lo hi) (drop (length (shared lo hi)) p) rs)
      ∙ ap (λ q. find q (under_prefix (shared lo hi) rs)) o
  lookup-find (interior i f ms) lo hi p e o =
      lookup-decide i f ms lo hi p
      ∙ ap (λ d. decide (newest ms (drop (length (shared lo hi)) p)) d) (lookup-find-in f (shared lo hi) lo hi p (inner i f ms lo hi e).branches)
      ∙ ap (λ q. decide (newest ms (drop (length (shared lo hi)) p)) (find q (rows_in f (shared lo hi) hi))) (sym o)
      ∙ sym (all-find (shared lo hi) (drop (length (shared lo hi)) p) ms (rows_in f (shared lo hi) hi))
      ∙ ap (λ q. find q (apply_all (shared lo hi) ms (rows_in f (shared lo hi) hi))) o

  pub lookup-find-in : (f : Forest) (lifted lo hi p : List ℕ) → sound_forest f lifted lo hi ≡ true → lookup_in f lifted hi p ≡ find p (rows_in f lifted hi)
  lookup-find-in end lifted lo hi p e = lookup-end lifted hi p ∙ sym (find-nil p)
  lookup-find-in (tree s t f) lifted lo hi p e =
      child-find s t f lifted lo hi p e
      (λ h. lookup-find t (lifted ++ s) (high_of lifted hi f) p (parts s t f lifted lo hi e).first (split (lifted ++ s) (high_of lifted hi f) p h))
      (lookup-find-in f lifted lo hi p (parts s t f lifted lo hi e).later)

-- at the root nothing is lifted, so this holds of every path
root-find : (t : Tree) (hi p : List ℕ) → sound_tree t [] hi ≡ true → lookup t [] hi p ≡ find p (rows t [] hi)
unfolding shared
root-find t hi p e = lookup-find t [] hi p e refl

-- a sound image means its table
pub means-table : (image : List ℕ) → sound image ≡ true → (p : List ℕ) → value_in image p ≡ find p (table_of image)
unfolding value_in table_of
means-table image e p = root-find (tree_of image) highest p (sound-parts image e).tree

pub not-unread : (i : ℕ) (lo hi : List ℕ) → sound_tree (unread i) lo hi ≡ true → ⊥
unfolding sound_tree
not-unread i lo hi e = false≢true e
