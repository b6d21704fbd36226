-- Every value of a sound tree's table fits: so what a lookup finds fits a buffer of that size.
use Rattle.std.specs.Prelude.{ℕ, ◌≤◌, ◌≡◌, refl, List, [], ◌∷◌, ◌++◌, Bool, true, false, ◌&&◌, length, leb}
use Rattle.image.specs.Prelude.{sym, ap, ◌∙◌, some, arith, leb-true, cases}
use Rattle.image.specs.Bytes.{same, before, shared}
use Rattle.image.specs.Path.{well_formed, below, owns, value_limit, value_fits}
use Rattle.image.specs.Entry.{Message, puts, drops, clears}
use Rattle.image.specs.Table.{Row, find, with_row, without, without_below, every_key, rising, under_prefix}
use Rattle.image.specs.Image.{Tree, unread, leaf, interior, Forest, end, tree, tree_of}
use Rattle.image.specs.Meaning.{high_of, apply, apply_all, rows, rows_in}
use Rattle.image.specs.Sound.{values_fit, sound_message, sound_messages, sound_tree, sound_forest, sound, table_of, lowest, highest}
use Rattle.octets.specs.Order.{and_left, and_right}
use Rattle.laws.specs.Rising.{both}
use Rattle.laws.specs.Filter.{fit-under}
use Rattle.laws.specs.LookupTable.{parts, inner}
use Rattle.laws.specs.ButLive.{sound-parts}

pub fit_append : (t u : List Row) → values_fit t ≡ true → values_fit u ≡ true → values_fit (t ++ u) ≡ true
unfolding values_fit
fit_append [] u e f = f
fit_append (r ∷ t) u e f = both (and_left (value_fits r.value) _ e) (fit_append t u (and_right (value_fits r.value) _ e) f)

pub with-fit : (p v : List ℕ) (t : List Row) → value_fits v ≡ true → values_fit t ≡ true → values_fit (with_row p v t) ≡ true
unfolding values_fit with_row
with-fit p v [] g e = both g refl
with-fit p v (r ∷ t) g e = go (before r.key p) refl (same p r.key) refl (with-fit p v t g (and_right (value_fits r.value) _ e))
  where
    go : (x : Bool) → before r.key p ≡ x → (y : Bool) → same p r.key ≡ y → values_fit (with_row p v t) ≡ true → values_fit (with_row p v (r ∷ t)) ≡ true
    go true h y k ih = rw h (both (and_left (value_fits r.value) _ e) ih)
    go false h true k ih = rw (h, k) (both g (and_right (value_fits r.value) _ e))
    go false h false k ih = rw (h, k) (both g e)

pub without-fit : (p : List ℕ) (t : List Row) → values_fit t ≡ true → values_fit (without p t) ≡ true
unfolding values_fit without
without-fit p [] e = refl
without-fit p (r ∷ t) e =
    cases (same p r.key) (λ k. rw k (without-fit p t (and_right (value_fits r.value) _ e)))
    (λ k. rw k (both (and_left (value_fits r.value) _ e) (without-fit p t (and_right (value_fits r.value) _ e))))

pub cleared-fit : (p : List ℕ) (t : List Row) → values_fit t ≡ true → values_fit (without_below p t) ≡ true
unfolding values_fit without_below
cleared-fit p [] e = refl
cleared-fit p (r ∷ t) e =
    cases (below r.key p) (λ k. rw k (cleared-fit p t (and_right (value_fits r.value) _ e)))
    (λ k. rw k (both (and_left (value_fits r.value) _ e) (cleared-fit p t (and_right (value_fits r.value) _ e))))

applied_fit : (lo hi : List ℕ) (ms : List Message) (t : List Row) → sound_messages lo hi ms ≡ true → values_fit t ≡ true → values_fit (apply_all (shared lo hi) ms t) ≡ true
unfolding apply_all apply sound_messages sound_message
applied_fit lo hi [] t e f = f
applied_fit lo hi (puts s v ∷ ms) t e f =
    let g : value_fits v ≡ true = and_right (well_formed (shared lo hi ++ s) && owns lo hi (shared lo hi ++ s)) (value_fits v) (and_left (sound_message lo hi (puts s v)) (sound_messages lo hi ms) e) in
    applied_fit lo hi ms (with_row (shared lo hi ++ s) v t) (and_right (sound_message lo hi (puts s v)) _ e) (with-fit (shared lo hi ++ s) v t g f)
applied_fit lo hi (drops s ∷ ms) t e f = applied_fit lo hi ms (without (shared lo hi ++ s) t) (and_right (sound_message lo hi (drops s)) _ e) (without-fit (shared lo hi ++ s) t f)
applied_fit lo hi (clears s ∷ ms) t e f = applied_fit lo hi ms (without_below (shared lo hi ++ s) t) (and_right (sound_message lo hi (clears s)) _ e) (cleared-fit (shared lo hi ++ s) t f)

leaf-fit : (i : ℕ) (rs : List Row) (lo hi : List ℕ) → sound_tree (leaf i rs) lo hi ≡ true → values_fit (under_prefix (shared lo hi) rs) ≡ true
unfolding sound_tree
leaf-fit i rs lo hi e =
    fit-under (shared lo hi) rs
    ∙ and_right (every_key well_formed (under_prefix (shared lo hi) rs) && every_key (owns lo hi) (under_prefix (shared lo hi) rs) && rising rs) (values_fit rs) e

mutual
  unfolding rows rows_in values_fit

  pub rows_fit : (t : Tree) (lo hi : List ℕ) → sound_tree t lo hi ≡ true → values_fit (rows t lo hi) ≡ true
  rows_fit (unread i) lo hi e = refl
  rows_fit (leaf i rs) lo hi e = leaf-fit i rs lo hi e
  rows_fit (interior i f ms) lo hi e =
      applied_fit lo hi ms (rows_in f (shared lo hi) hi) (inner i f ms lo hi e).wait (rows-fit-in f (shared lo hi) lo hi (inner i f ms lo hi e).branches)

  pub rows-fit-in : (f : Forest) (lifted lo hi : List ℕ) → sound_forest f lifted lo hi ≡ true → values_fit (rows_in f lifted hi) ≡ true
  rows-fit-in end lifted lo hi e = refl
  rows-fit-in (tree s t f) lifted lo hi e =
      fit_append (rows t (lifted ++ s) (high_of lifted hi f)) (rows_in f lifted hi) (rows_fit t (lifted ++ s) (high_of lifted hi f) (parts s t f lifted lo hi e).first) (rows-fit-in f lifted lo hi (parts s t f lifted lo hi e).later)

pub found-fits : (p v : List ℕ) (t : List Row) → values_fit t ≡ true → find p t ≡ some v → length v ≤ value_limit
unfolding values_fit find value_fits
found-fits p v [] e h = let z : ◌≡◌ {A = ℕ} 0 1 = cc in absurd (omega arith)
found-fits p v (r ∷ t) e h = go (same p r.key) refl (found-fits p v t (and_right (leb (length r.value) value_limit) _ e))
  where
    go : (y : Bool) → same p r.key ≡ y → (find p t ≡ some v → length v ≤ value_limit) → length v ≤ value_limit
    go true k ih =
        let q : some r.value ≡ some v = rw k at h in
        let w : r.value ≡ v = cc in
        leb-true (length v) value_limit (ap (λ x. leb (length x) value_limit) (sym w) ∙ and_left (leb (length r.value) value_limit) _ e)
    go false k ih = let q : find p t ≡ some v = rw k at h in ih q

-- what a sound image holds
pub table_fits : (s : List ℕ) → sound s ≡ true → values_fit (table_of s) ≡ true
unfolding table_of
table_fits s e = rows_fit (tree_of s) lowest highest (sound-parts s e).tree

pub leaf-values : (i : ℕ) (rs : List Row) (lo hi : List ℕ) → sound_tree (leaf i rs) lo hi ≡ true → values_fit rs ≡ true
unfolding sound_tree
leaf-values i rs lo hi e =
    and_right (every_key well_formed (under_prefix (shared lo hi) rs) && every_key (owns lo hi) (under_prefix (shared lo hi) rs) && rising rs) _ e
