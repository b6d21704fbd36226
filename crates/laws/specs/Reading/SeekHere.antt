-- The keys of a tree told from inside a node, and the walk over them: what the code of next carries down is the lifted prefix.
use Rattle.std.specs.Prelude.{ℕ, ◌≡◌, refl, List, [], ◌∷◌, ◌++◌, Bool, true, false, ◌&&◌, not, length, drop}
use Rattle.image.specs.Prelude.{sym, ap, ap₂, ◌∙◌, append_assoc, Option, none, length-append, drop-append-add}
use Rattle.image.specs.Bytes.{same, shared}
use Rattle.image.specs.Entry.{Message, puts, drops, clears}
use Rattle.image.specs.Table.{Row, find, is_some, under_prefix, least_after}
use Rattle.image.specs.Image.{Tree, unread, leaf, interior, Forest, end, tree}
use Rattle.image.specs.Meaning.{high_of, rows}
use Rattle.image.specs.Sound.{sound_tree}
use Rattle.octets.specs.Order.{and_right, and-false, same-eq, shared-append, begins-split}
use Rattle.laws.specs.RowsRising.{rows-rise}
use Rattle.laws.specs.Filter.{keep, keep-rises}
use Rattle.octets.specs.Beginnings.{shared-right}
use Rattle.laws.specs.Reading.Relative.{lifts}
use Rattle.laws.specs.Reading.Far.{far_from, far-fair}
use Rattle.laws.specs.Reading.Seek.{keys_of, puts_of, keys, keys_in, walk, every-impl, holds, keys-hold, wanted, walk_none, present, walk-least, walk_same, stands}

unfoldable pub under : List ℕ → List (List ℕ) → List (List ℕ)
under prefix [] = []
under prefix (k ∷ ks) = (prefix ++ k) ∷ under prefix ks

unfoldable mutual
  pub keys_here : Tree → List ℕ → List (List ℕ)
  keys_here (unread i) hi = []
  keys_here (leaf i rs) hi = keys_of rs
  keys_here (interior i f ms) hi = keys_branches f hi ++ puts_of [] ms

  pub keys_branches : Forest → List ℕ → List (List ℕ)
  keys_branches end hi = []
  keys_branches (tree s t f) hi =
      under (shared s (high_of [] hi f)) (keys_here t (drop (lifts s (high_of [] hi f)) (high_of [] hi f))) ++ keys_branches f hi

pub under-append : (prefix : List ℕ) (a b : List (List ℕ)) → under prefix (a ++ b) ≡ under prefix a ++ under prefix b
unfolding under
under-append prefix [] b = refl
under-append prefix (k ∷ a) b = ap (λ l. (prefix ++ k) ∷ l) (under-append prefix a b)

pub under-under : (prefix Y : List ℕ) (a : List (List ℕ)) → under (prefix ++ Y) a ≡ under prefix (under Y a)
unfolding under
under-under prefix Y [] = refl
under-under prefix Y (k ∷ a) = ap₂ (λ x l. x ∷ l) (append_assoc prefix Y k) (under-under prefix Y a)

rows-under : (prefix : List ℕ) (rs : List Row) → keys_of (under_prefix prefix rs) ≡ under prefix (keys_of rs)
unfolding keys_of under_prefix under
rows-under prefix [] = refl
rows-under prefix (r ∷ rs) = ap (λ l. (prefix ++ r.key) ∷ l) (rows-under prefix rs)

puts-under : (prefix : List ℕ) (ms : List Message) → puts_of prefix ms ≡ under prefix (puts_of [] ms)
unfolding puts_of under
puts-under prefix [] = refl
puts-under prefix (puts s v ∷ ms) = ap (λ l. (prefix ++ s) ∷ l) (puts-under prefix ms)
puts-under prefix (drops s ∷ ms) = puts-under prefix ms
puts-under prefix (clears s ∷ ms) = puts-under prefix ms

nil-under : (prefix : List ℕ) → [] ≡ under prefix []
unfolding under
nil-under prefix = refl

pub high-under : (prefix hi : List ℕ) (f : Forest) → high_of prefix (prefix ++ hi) f ≡ prefix ++ high_of [] hi f
unfolding high_of
high-under prefix hi end = refl
high-under prefix hi (tree s t f) = refl

pub child-under : (prefix s h : List ℕ) (t : Tree)
    → under (shared (prefix ++ s) (prefix ++ h)) (keys_here t (drop (lifts (prefix ++ s) (prefix ++ h)) (prefix ++ h))) ≡ under prefix (under (shared s h) (keys_here t (drop (lifts s h) h)))
unfolding lifts
child-under prefix s h t =
    rw (shared-append prefix s h, length-append prefix (shared s h), drop-append-add prefix h (length (shared s h))) (under-under prefix (shared s h) (keys_here t (drop (length (shared s h)) h)))

pub high-split : (lo hi : List ℕ) → shared lo hi ++ drop (lifts lo hi) hi ≡ hi
unfolding lifts
high-split lo hi = begins-split (shared lo hi) hi (shared-right lo hi)

mutual
  unfolding keys keys_in keys_here keys_branches

  pub keys-here : (t : Tree) (lo hi : List ℕ) → keys t lo hi ≡ under (shared lo hi) (keys_here t (drop (lifts lo hi) hi))
  keys-here (unread i) lo hi = nil-under (shared lo hi)
  keys-here (leaf i rs) lo hi = rows-under (shared lo hi) rs
  keys-here (interior i f ms) lo hi =
      ap₂ (λ a b. a ++ b)
      (ap (λ h. keys_in f (shared lo hi) h) (sym (high-split lo hi)) ∙ keys-branches f (shared lo hi) (drop (lifts lo hi) hi))
      (puts-under (shared lo hi) ms)
      ∙ sym (under-append (shared lo hi) (keys_branches f (drop (lifts lo hi) hi)) (puts_of [] ms))

  pub keys-branches : (f : Forest) (prefix hi : List ℕ) → keys_in f prefix (prefix ++ hi) ≡ under prefix (keys_branches f hi)
  keys-branches end prefix hi = nil-under prefix
  keys-branches (tree s t f) prefix hi =
      rw (high-under prefix hi f)
      (ap₂ (λ a b. a ++ b) (keys-here t (prefix ++ s) (prefix ++ high_of [] hi f) ∙ child-under prefix s (high_of [] hi f) t) (keys-branches f prefix hi)
      ∙ sym (under-append prefix (under (shared s (high_of [] hi f)) (keys_here t (drop (lifts s (high_of [] hi f)) (high_of [] hi f)))) (keys_branches f hi)))

-- a child of a sound node that is skipped leaves the best as it was
pub skip-here : (there : List ℕ → Bool) (below after prefix s h : List ℕ) (t : Tree) (best : Option (List ℕ)) → sound_tree t (prefix ++ s) (prefix ++ h) ≡ true
    → far_from below after (prefix ++ s) (prefix ++ h) best ≡ true → walk there below after best (under prefix (under (shared s h) (keys_here t (drop (lifts s h) h)))) ≡ best
skip-here there below after prefix s h t best e f =
    ap (λ ks. walk there below after best ks) (sym (child-under prefix s h t) ∙ sym (keys-here t (prefix ++ s) (prefix ++ h)))
    ∙ walk_none there below after best (keys t (prefix ++ s) (prefix ++ h))
    (every-impl (holds (prefix ++ s) (prefix ++ h)) (λ k. not (wanted below after best k)) (λ k q. far-fair below after (prefix ++ s) (prefix ++ h) best f k q) (keys t (prefix ++ s) (prefix ++ h)) (keys-hold t (prefix ++ s) (prefix ++ h) e))

-- what is present among the rows that pass a test is present, and passes it
present-keep : (test : List ℕ → Bool) (k : List ℕ) (t : List Row) → test k && present k t ≡ present k (keep test t)
unfolding keep present find is_some
present-keep test k [] = and-false (test k)
present-keep test k (r ∷ t) = go (same k r.key) refl (test r.key) refl (present-keep test k t)
  where
    go : (x : Bool) → same k r.key ≡ x → (y : Bool) → test r.key ≡ y → test k && present k t ≡ present k (keep test t)
        → test k && present k (r ∷ t) ≡ present k (keep test (r ∷ t))
    go true s true e ih = rw (e, s, ap test (same-eq k r.key s) ∙ e)
    go true s false e ih = rw (e, s, ap test (same-eq k r.key s) ∙ e) (rw (ap test (same-eq k r.key s) ∙ e) at ih)
    go false s true e ih = rw (e, s) ih
    go false s false e ih = rw (e, s) ih

-- at the root: of the present paths that pass a test
pub next_here : (test : List ℕ → Bool) (below after : List ℕ) (t : Tree) (hi : List ℕ) → sound_tree t [] hi ≡ true
    → walk (λ k. test k && present k (rows t [] hi)) below after none (under [] (keys_here t hi)) ≡ least_after below after (keep test (rows t [] hi))
unfolding lifts shared
next_here test below after t hi e =
    ap (λ ks. walk (λ k. test k && present k (rows t [] hi)) below after none ks) (sym (keys-here t [] hi))
    ∙ walk_same (λ k. test k && present k (rows t [] hi)) (λ k. present k (keep test (rows t [] hi))) below after (λ k. present-keep test k (rows t [] hi)) none (keys t [] hi)
    ∙ walk-least below after (keep test (rows t [] hi)) (keys t [] hi) (keep-rises test (rows t [] hi) (rows-rise t [] hi e))
    (λ k h. stands t [] hi k (and_right (test k) _ (present-keep test k (rows t [] hi) ∙ h)))
