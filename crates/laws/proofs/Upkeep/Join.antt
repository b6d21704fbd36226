-- Two neighbouring children merged where they would fit in one node; and that again and again until none do.
-- The laws of specs/Upkeep/Join that rest on a definition which a must-fail edit changes.
use Rattle.std.specs.Prelude.{ℕ, zero, suc, ◌≡◌, refl, List, [], ◌∷◌, ◌++◌, Bool, true, eqb}
use Rattle.image.specs.Prelude.{ap, ◌∙◌, append_assoc, eq-eqb, cases}
use Rattle.image.specs.Bytes.{before}
use Rattle.image.specs.Image.{Tree, Forest, end, tree}
use Rattle.image.specs.Meaning.{high_of, rows, rows_in}
use Rattle.image.specs.Sound.{sound_tree, sound_forest, first_pivot, numbers, numbers_in, is_in}
use Rattle.image.specs.Upkeep.{reachable, reachable_in}
use Rattle.octets.specs.Order.{and_left, and_right, before-trans}
use Rattle.laws.specs.Rising.{both}
use Rattle.laws.specs.Frame.{or_left, or_right}
use Rattle.laws.specs.LookupTable.{Parts, parts}
use Rattle.laws.specs.Upkeep.Sublists.{Sub, sub_refl, sub-append}
use Rattle.laws.specs.Upkeep.Kept.{Kept, kept_refl, kept_append}
use Rattle.laws.specs.Page.{number_of}
use Rattle.laws.specs.Upkeep.Merge.{same_kind, merged, tall_in, Pair, pair_of, merged-rows, merged-tall, merged-number, merged-numbers, merged-kept}
use Rattle.laws.proofs.Upkeep.Merge.{merged-sound}
use Rattle.laws.specs.Upkeep.Size.{Fits, fits}
use Rattle.laws.specs.Upkeep.Mends.{MendsIn, mends-refl, mends-in-refl, mends-tree, tall-first, tall-later}
use Rattle.laws.specs.Upkeep.Join.{heads, join_at, joins, later-kept}

pub join-pair : (t u : Tree) (lo mid hi : List ℕ) → joins t u lo mid hi ≡ true → Pair t u
unfolding joins
join-pair t u lo mid hi e =
    let w : Fits t u lo mid hi = fits t u lo mid hi (and_right (same_kind t u) _ e) in
    pair_of t u (and_left _ _ e) w.left w.right

-- ONE MERGE
module _ (s q : List ℕ) (t u : Tree) (f : Forest) (lifted lo hi : List ℕ) (level : ℕ) (e : sound_forest (tree s t (tree q u f)) lifted lo hi ≡ true)
    (h : tall_in (tree s t (tree q u f)) level ≡ true) (p : Pair t u) where
  low-mid : before (lifted ++ s) (lifted ++ q) ≡ true
  unfolding high_of
  low-mid = (parts s t (tree q u f) lifted lo hi e).rises

  left-sound : sound_tree t (lifted ++ s) (lifted ++ q) ≡ true
  unfolding high_of
  left-sound = (parts s t (tree q u f) lifted lo hi e).first

  right : Parts q u f lifted lo hi
  right = parts q u f lifted lo hi (parts s t (tree q u f) lifted lo hi e).later

  one-high : (l k : List ℕ) → high_of l k (tree s (merged t u (lifted ++ s) (lifted ++ q) (high_of lifted hi f)) f) ≡ high_of l k (tree s t (tree q u f))
  unfolding high_of
  one-high l k = refl

  one-first : (l k : List ℕ) → first_pivot l k (tree s (merged t u (lifted ++ s) (lifted ++ q) (high_of lifted hi f)) f) ≡ first_pivot l k (tree s t (tree q u f))
  unfolding first_pivot
  one-first l k = refl

  one_table : rows_in (tree s (merged t u (lifted ++ s) (lifted ++ q) (high_of lifted hi f)) f) lifted hi ≡ rows_in (tree s t (tree q u f)) lifted hi
  unfolding rows_in high_of
  one_table =
      ap (λ a. a ++ rows_in f lifted hi) (merged-rows p (lifted ++ s) (lifted ++ q) (high_of lifted hi f) low-mid right.rises left-sound right.first)
      ∙ append_assoc (rows t (lifted ++ s) (lifted ++ q)) (rows u (lifted ++ q) (high_of lifted hi f)) (rows_in f lifted hi)

  one-sound : sound_forest (tree s (merged t u (lifted ++ s) (lifted ++ q) (high_of lifted hi f)) f) lifted lo hi ≡ true
  unfolding sound_forest
  one-sound =
      both (both (both (parts s t (tree q u f) lifted lo hi e).owned (before-trans (lifted ++ s) (lifted ++ q) (high_of lifted hi f) low-mid right.rises))
      (merged-sound p (lifted ++ s) (lifted ++ q) (high_of lifted hi f) low-mid right.rises left-sound right.first))
      right.later

  one-tall : tall_in (tree s (merged t u (lifted ++ s) (lifted ++ q) (high_of lifted hi f)) f) level ≡ true
  unfolding tall_in
  one-tall =
      both (merged-tall p (lifted ++ s) (lifted ++ q) (high_of lifted hi f) level (tall-first s t (tree q u f) level h) (tall-first q u f level (tall-later s t (tree q u f) level h)))
      (tall-later q u f level (tall-later s t (tree q u f) level h))

  one-nodes : Sub (numbers_in (tree s (merged t u (lifted ++ s) (lifted ++ q) (high_of lifted hi f)) f)) (numbers_in (tree s t (tree q u f)))
  unfolding numbers_in
  one-nodes =
      rw (← append_assoc (numbers t) (numbers u) (numbers_in f))
      (sub-append (merged-numbers p (lifted ++ s) (lifted ++ q) (high_of lifted hi f)) (sub_refl (numbers_in f)))

  pub one-mends : MendsIn (tree s t (tree q u f)) (tree s (merged t u (lifted ++ s) (lifted ++ q) (high_of lifted hi f)) f) lifted lo hi level
  one-mends = record { high = one-high; first = one-first; table = one_table; sound = one-sound; height = one-tall; nodes = one-nodes }

  pub one_kept : (among : ℕ → Bool) → among (number_of t) ≡ true
      → Kept among (reachable_in (tree s t (tree q u f)) level lifted hi) (reachable_in (tree s (merged t u (lifted ++ s) (lifted ++ q) (high_of lifted hi f)) f) level lifted hi)
  unfolding reachable_in high_of
  one_kept among a =
      rw (← append_assoc (reachable t level (lifted ++ s) (lifted ++ q)) (reachable u level (lifted ++ q) (high_of lifted hi f)) (reachable_in f level lifted hi))
      (kept_append among
      (merged-kept among p (lifted ++ s) (lifted ++ q) (high_of lifted hi f) level low-mid right.rises left-sound right.first a)
      (kept_refl among (reachable_in f level lifted hi)))

-- THE PAIR AT PLACE k
pub join-mends : (k : ℕ) (f : Forest) (lifted lo hi : List ℕ) (level : ℕ) → sound_forest f lifted lo hi ≡ true → tall_in f level ≡ true
    → MendsIn f (join_at k f lifted hi) lifted lo hi level
unfolding join_at
join-mends k end lifted lo hi level e h = mends-in-refl end lifted lo hi level e h
join-mends k (tree s t end) lifted lo hi level e h = mends-in-refl (tree s t end) lifted lo hi level e h
join-mends zero (tree s t (tree q u f)) lifted lo hi level e h =
    cases (joins t u (lifted ++ s) (lifted ++ q) (high_of lifted hi f))
    (λ a. rw a (one-mends s q t u f lifted lo hi level e h (join-pair t u (lifted ++ s) (lifted ++ q) (high_of lifted hi f) a)))
    (λ a. rw a (mends-in-refl (tree s t (tree q u f)) lifted lo hi level e h))
join-mends (suc k) (tree s t (tree q u f)) lifted lo hi level e h =
    mends-tree s t t (tree q u f) (join_at k (tree q u f) lifted hi) lifted lo hi level e
    (mends-refl t (lifted ++ s) (high_of lifted hi (tree q u f)) level (parts s t (tree q u f) lifted lo hi e).first (tall-first s t (tree q u f) level h))
    (join-mends k (tree q u f) lifted lo hi level (parts s t (tree q u f) lifted lo hi e).later (tall-later s t (tree q u f) level h))

pub join-heads : (k : ℕ) (f : Forest) (lifted hi : List ℕ) → Sub (heads (join_at k f lifted hi)) (heads f)
unfolding join_at heads
join-heads k end lifted hi = sub_refl []
join-heads k (tree s t end) lifted hi = sub_refl (number_of t ∷ [])
join-heads zero (tree s t (tree q u f)) lifted hi =
    cases (joins t u (lifted ++ s) (lifted ++ q) (high_of lifted hi f)) (λ a. rw (a, merged-number (join-pair t u (lifted ++ s) (lifted ++ q) (high_of lifted hi f) a) (lifted ++ s) (lifted ++ q) (high_of lifted hi f))
    (Sub.keep (Sub.gone (sub_refl (heads f)))))
    (λ a. rw a (sub_refl (number_of t ∷ number_of u ∷ heads f)))
join-heads (suc k) (tree s t (tree q u f)) lifted hi = Sub.keep (join-heads k (tree q u f) lifted hi)

pub join_kept : (among : ℕ → Bool) (k : ℕ) (f : Forest) (lifted lo hi : List ℕ) (level : ℕ) → sound_forest f lifted lo hi ≡ true → tall_in f level ≡ true
    → ((j : ℕ) → is_in j (heads f) ≡ true → among j ≡ true)
    → Kept among (reachable_in f level lifted hi) (reachable_in (join_at k f lifted hi) level lifted hi)
unfolding join_at heads is_in
join_kept among k end lifted lo hi level e h a = kept_refl among (reachable_in end level lifted hi)
join_kept among k (tree s t end) lifted lo hi level e h a = kept_refl among (reachable_in (tree s t end) level lifted hi)
join_kept among zero (tree s t (tree q u f)) lifted lo hi level e h a =
    cases (joins t u (lifted ++ s) (lifted ++ q) (high_of lifted hi f)) (λ b. rw b (one_kept s q t u f lifted lo hi level e h (join-pair t u (lifted ++ s) (lifted ++ q) (high_of lifted hi f) b) among
    (a (number_of t) (or_left (eqb (number_of t) (number_of t)) _ (eq-eqb (number_of t) (number_of t) refl)))))
    (λ b. rw b (kept_refl among (reachable_in (tree s t (tree q u f)) level lifted hi)))
join_kept among (suc k) (tree s t (tree q u f)) lifted lo hi level e h a =
    later-kept among s t (tree q u f) (join_at k (tree q u f) lifted hi) lifted hi level
    ((join-mends k (tree q u f) lifted lo hi level (parts s t (tree q u f) lifted lo hi e).later (tall-later s t (tree q u f) level h)).high lifted hi)
    (join_kept among k (tree q u f) lifted lo hi level (parts s t (tree q u f) lifted lo hi e).later (tall-later s t (tree q u f) level h)
    (λ j b. a j (or_right (eqb j (number_of t)) (is_in j (heads (tree q u f))) b)))
