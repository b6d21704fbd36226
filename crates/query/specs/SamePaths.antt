-- Two rising tables have the same keys exactly if they are equally long and every key of the one is in the other.
-- Relies on: rising tables (laws/specs/Rising), and inclusion by what is present (inclusion/specs/Root).
use Rattle.std.specs.Prelude.{ℕ, ◌≤◌, ◌≡◌, refl, List, [], ◌∷◌, Bool, true, false, length}
use Rattle.image.specs.Prelude.{sym, ◌∙◌, false≢true, none, arith}
use Rattle.image.specs.Bytes.{same, before}
use Rattle.image.specs.Table.{Row, find, is_some, every_key, leads, rising}
use Rattle.image.specs.Contract.{same_keys}
use Rattle.octets.specs.Order.{and_left, and_right, not_so, same_refl, same-eq}
use Rattle.laws.specs.Tables.{find-nil, find-yes, find-no}
use Rattle.laws.specs.Rising.{both, both_ways, find-leads, one_key}
use Rattle.laws.specs.Reading.Seek.{present, not-present}
use Rattle.inclusion.specs.Held.{included}
use Rattle.inclusion.specs.Root.{each-key, key-tested}

-- 1. Tables with the same keys are equally long, and have the same paths.
keys_length : (t u : List Row) → same_keys t u ≡ true → length t ≡ length u
unfolding same_keys
keys_length [] [] e = refl
keys_length [] (q ∷ u) e = absurd (false≢true e)
keys_length (r ∷ t) [] e = absurd (false≢true e)
keys_length (r ∷ t) (q ∷ u) e = let l = keys_length t u (and_right (same r.key q.key) _ e) in omega arith

keys-present : (k : List ℕ) (t u : List Row) → same_keys t u ≡ true → present k t ≡ present k u
unfolding same_keys present is_some
keys-present k [] [] e = refl
keys-present k [] (q ∷ u) e = absurd (false≢true e)
keys-present k (r ∷ t) [] e = absurd (false≢true e)
keys-present k (r ∷ t) (q ∷ u) e = go (same k r.key) refl (keys-present k t u (and_right (same r.key q.key) _ e))
  where
    one : r.key ≡ q.key
    one = same-eq r.key q.key (and_left (same r.key q.key) (same_keys t u) e)

    go : (x : Bool) → same k r.key ≡ x → is_some (find k t) ≡ is_some (find k u) → is_some (find k (r ∷ t)) ≡ is_some (find k (q ∷ u))
    go true a ih = rw (find-yes k r t a, find-yes k q u (rw one at a)) refl
    go false a ih = rw (find-no k r t a, find-no k q u (rw one at a)) ih

keys-included : (t u : List Row) → same_keys t u ≡ true → included t u ≡ true
unfolding included
keys-included t u e = each-key (λ k. present k u) t (λ k h. sym (keys-present k t u e) ∙ h)

-- 2. A table that is included in another, row by row.
first-in : (r : Row) (t u : List Row) → included (r ∷ t) u ≡ true → present r.key u ≡ true
unfolding included every_key
first-in r t u h = and_left (present r.key u) _ h

later-in : (r : Row) (t u : List Row) → included (r ∷ t) u ≡ true → included t u ≡ true
unfolding included every_key
later-in r t u h = and_right (present r.key u) _ h

-- a row whose key the table does not have serves nothing
spare-row : (q : Row) (t u : List Row) → find q.key t ≡ none → included t (q ∷ u) ≡ true → included t u ≡ true
unfolding included
spare-row q t u e h = each-key (λ k. present k u) t (λ k p. go k p (same k q.key) refl (key-tested (λ m. present m (q ∷ u)) t k h p))
  where
    go : (k : List ℕ) → present k t ≡ true → (x : Bool) → same k q.key ≡ x → present k (q ∷ u) ≡ true → present k u ≡ true
    go k p true a i = not_so p (not-present k t (rw (same-eq k q.key a) e))
    go k p false a i = unfold present in (rw (find-no k q u a) at i)

-- where the first rows of two rising tables stand to each other, if the one is included in the other
data Stand (r q : Row) (t u : List Row) : Type 0 where
  level : r.key ≡ q.key → included t u ≡ true → Stand r q t u
  after : included (r ∷ t) u ≡ true → Stand r q t u

stand : (r q : Row) (t u : List Row) → rising (r ∷ t) ≡ true → rising (q ∷ u) ≡ true → included (r ∷ t) (q ∷ u) ≡ true → Stand r q t u
unfolding rising leads
stand r q t u e f h = go (before r.key q.key) refl (before q.key r.key) refl
  where
    go : (x : Bool) → before r.key q.key ≡ x → (y : Bool) → before q.key r.key ≡ y → Stand r q t u
    go true a y b = not_so (first-in r t (q ∷ u) h) (not-present r.key (q ∷ u) (find-leads r.key (q ∷ u) f a))
    go false a true b = after (spare-row q (r ∷ t) u (find-leads q.key (r ∷ t) e b) h)
    go false a false b =
        let z : r.key ≡ q.key = one_key r.key q.key a b in
        let g : find r.key t ≡ none = find-leads r.key t (and_right (leads r.key t) _ e) (and_left _ _ e) in
        level z (spare-row q t u (rw z at g) (later-in r t (q ∷ u) h))

rises-on : (r : Row) (t : List Row) → rising (r ∷ t) ≡ true → rising t ≡ true
unfolding rising
rises-on r t e = and_right (leads r.key t) _ e

nothing-in : (r : Row) (t : List Row) → included (r ∷ t) [] ≡ true → ⊥
nothing-in r t h = not_so (first-in r t [] h) (not-present r.key [] (find-nil r.key))

-- it is no longer
not-longer : (t u : List Row) → rising t ≡ true → rising u ≡ true → included t u ≡ true → length t ≤ length u
not-longer [] u e f h = omega arith
not-longer (r ∷ t) [] e f h = absurd (nothing-in r t h)
not-longer (r ∷ t) (q ∷ u) e f h =
    go (stand r q t u e f h) (λ g. not-longer t u (rises-on r t e) (rises-on q u f) g) (λ g. not-longer (r ∷ t) u e (rises-on q u f) g)
  where
    go : Stand r q t u → (included t u ≡ true → length t ≤ length u) → (included (r ∷ t) u ≡ true → length (r ∷ t) ≤ length u) → length (r ∷ t) ≤ length (q ∷ u)
    go (level z g) one two = let l = one g in omega arith
    go (after g) one two = let l = two g in omega arith

-- and if it is as long, it has the same keys
included-keys : (t u : List Row) → rising t ≡ true → rising u ≡ true → length t ≡ length u → included t u ≡ true → same_keys t u ≡ true
unfolding same_keys
included-keys [] [] e f l h = refl
included-keys [] (q ∷ u) e f l h = absurd (omega arith)
included-keys (r ∷ t) [] e f l h = absurd (omega arith)
included-keys (r ∷ t) (q ∷ u) e f l h = go (stand r q t u e f h) (λ g. included-keys t u (rises-on r t e) (rises-on q u f) (omega arith) g)
  where
    go : Stand r q t u → (included t u ≡ true → same_keys t u ≡ true) → same_keys (r ∷ t) (q ∷ u) ≡ true
    go (level z g) ih = let k : same r.key q.key ≡ true = rw z (same_refl q.key) in both k (ih g)
    go (after g) ih = let m = not-longer (r ∷ t) u e (rises-on q u f) g in absurd (omega arith)

-- 3. What same asks.
pub other_length : (t u : List Row) → (length t ≡ length u → ⊥) → false ≡ same_keys t u
other_length t u h = go (same_keys t u) refl
  where
    go : (x : Bool) → same_keys t u ≡ x → false ≡ same_keys t u
    go true e = absurd (h (keys_length t u e))
    go false e = sym e

pub same_length : (t u : List Row) → rising t ≡ true → rising u ≡ true → length t ≡ length u → included t u ≡ same_keys t u
same_length t u e f l = both_ways (included t u) (same_keys t u) (included-keys t u e f l) (keys-included t u)
