-- The walk from the root decides inclusion: it comes to every path that is present, and asks nothing of those that are not.
-- Relies on: Held, that every present path stands in an entry (laws/Reading/Seek), and that lookup is the table (successor/specs/Present).
use Rattle.std.specs.Prelude.{ℕ, ◌≡◌, refl, List, [], ◌∷◌, Bool, true, false, ◌||◌, not}
use Rattle.image.specs.Prelude.{sym, ap, ◌∙◌, Option, none, some}
use Rattle.image.specs.Bytes.{shared}
use Rattle.image.specs.Table.{Row, find, is_some, every_key}
use Rattle.image.specs.Image.{tree_of}
use Rattle.image.specs.Sound.{sound, table_of, lowest, highest}
use Rattle.octets.specs.Order.{not_so, upheld}
use Rattle.laws.specs.Rising.{both, both_ways}
use Rattle.laws.specs.Tables.{find-fails}
use Rattle.laws.specs.RowsRising.{every-key}
use Rattle.laws.specs.Frame.{or_left, or_right}
use Rattle.laws.specs.Reading.Relative.{lifts}
use Rattle.laws.specs.Reading.Seek.{every, is_key, present, not-present, keys, stands, key-passes}
use Rattle.laws.specs.Reading.SeekHere.{under, keys_here, keys-here}
use Rattle.successor.specs.Walk.{is_present}
use Rattle.successor.specs.Present.{present-is}
use Rattle.inclusion.specs.Held.{is_held, all_held, included}

-- 1. Every key of a table passes a test exactly if each path that is present does.
pub each-key : (test : List ℕ → Bool) (t : List Row) → ((k : List ℕ) → present k t ≡ true → test k ≡ true) → every_key test t ≡ true
each-key test t f = every-key test t (λ k e. go k e (find k t) refl)
  where
    there : (k v : List ℕ) → find k t ≡ some v → present k t ≡ true
    there k v z = unfold present is_some in rw z

    go : (k : List ℕ) → test k ≡ false → (o : Option (List ℕ)) → find k t ≡ o → find k t ≡ none
    go k e none z = z
    go k e (some v) z = not_so (f k (there k v z)) e

pub key-tested : (test : List ℕ → Bool) (t : List Row) (k : List ℕ) → every_key test t ≡ true → present k t ≡ true → test k ≡ true
key-tested test t k e h = upheld (λ f. not_so h (not-present k t (find-fails test k t e f)))

every-so : (test : List ℕ → Bool) → ((k : List ℕ) → test k ≡ true) → (ks : List (List ℕ)) → every test ks ≡ true
unfolding every
every-so test f [] = refl
every-so test f (k ∷ ks) = both (f k) (every-so test f ks)

-- 2. Over paths among which each present one stands, the walk decides.
module _ (s t : List ℕ) (s-sound : sound s ≡ true) (t-sound : sound t ≡ true) where
  -- a held path that is present is in the other table
  held-there : (k : List ℕ) → is_held s t k ≡ true → present k (table_of s) ≡ true → present k (table_of t) ≡ true
  unfolding is_held
  held-there k h e = go (is_present t k) refl
    where
      here : is_present s k ≡ true
      here = present-is s s-sound k ∙ e

      go : (x : Bool) → is_present t k ≡ x → present k (table_of t) ≡ true
      go true f = sym (present-is t t-sound k) ∙ f
      go false f = let z : false ≡ true = rw (f, here) at h in not_so z refl

  there-held : included (table_of s) (table_of t) ≡ true → (k : List ℕ) → is_held s t k ≡ true
  unfolding is_held included
  there-held h k = go (is_present s k) refl
    where
      go : (x : Bool) → is_present s k ≡ x → is_present t k || not (is_present s k) ≡ true
      go true f =
          or_left (is_present t k) (not (is_present s k))
          (present-is t t-sound k ∙ key-tested (λ m. present m (table_of t)) (table_of s) k h (sym (present-is s s-sound k) ∙ f))
      go false f = or_right (is_present t k) (not (is_present s k)) (rw f)

  decides : (ks : List (List ℕ)) → ((k : List ℕ) → present k (table_of s) ≡ true → is_key k ks ≡ true) → all_held s t ks ≡ included (table_of s) (table_of t)
  unfolding all_held included
  decides ks f =
      both_ways (every (is_held s t) ks) (every_key (λ k. present k (table_of t)) (table_of s))
      (λ h. each-key (λ k. present k (table_of t)) (table_of s) (λ k p. held-there k (key-passes (is_held s t) k ks (f k p) h) p))
      (λ h. every-so (is_held s t) (there-held h) ks)

  -- 3. From the root.
  pub root-decides : all_held s t (under [] (keys_here (tree_of s) highest)) ≡ included (table_of s) (table_of t)
  root-decides =
      ap (λ ks. all_held s t ks) whole
      ∙ decides (keys (tree_of s) lowest highest) (λ k h. stands (tree_of s) lowest highest k (unfold table_of in h))
    where
      whole : under [] (keys_here (tree_of s) highest) ≡ keys (tree_of s) lowest highest
      whole = unfold lifts shared in sym (keys-here (tree_of s) lowest highest)
