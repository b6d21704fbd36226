-- The swing: a settled tree under other bytes is sound there, when its paths are well formed there. And the middle of a move as one tree.
use Rattle.std.specs.Prelude.{ℕ, ◌≡◌, refl, List, [], ◌∷◌, ◌++◌, Bool, true, ◌&&◌}
use Rattle.image.specs.Prelude.{sym, ap, ◌∙◌, append_assoc, false≢true, drop-append_seam}
use Rattle.image.specs.Bytes.{before, shared}
use Rattle.image.specs.Path.{owns, well_formed}
use Rattle.image.specs.Table.{Row, every_key, rising, under_prefix, renamed}
use Rattle.image.specs.Image.{Tree, unread, leaf, interior, Forest, end, tree}
use Rattle.image.specs.Meaning.{high_of, apply_all, rows, rows_in}
use Rattle.image.specs.Sound.{sound_tree, sound_forest, sound_messages, first_pivot}
use Rattle.octets.specs.Order.{and_left, and_right, same-append, before-append, shared-append}
use Rattle.laws.specs.Rising.{both}
use Rattle.laws.specs.LookupTable.{Parts, parts, inner, not-unread}
use Rattle.laws.specs.Shift.{under-under, high-shift, owns-shift, rows-shift}
use Rattle.laws.specs.Pieces.{still, still_in, Good}
use Rattle.laws.specs.Filter.{every_append}

pub every-left : (a : List ℕ → Bool) (t u : List Row) → every_key a (t ++ u) ≡ true → every_key a t ≡ true
unfolding every_key
every-left a [] u e = refl
every-left a (r ∷ t) u e = both (and_left (a r.key) _ e) (every-left a t u (and_right (a r.key) _ e))

pub every-right : (a : List ℕ → Bool) (t u : List Row) → every_key a (t ++ u) ≡ true → every_key a u ≡ true
unfolding every_key
every-right a [] u e = e
every-right a (r ∷ t) u e = every-right a t u (and_right (a r.key) _ e)

-- what does not depend on the bytes in front
module _ (old : List ℕ) where
  owned-shift : (lo hi : List ℕ) (t : List Row) → every_key (owns (old ++ lo) (old ++ hi)) (under_prefix old t) ≡ every_key (owns lo hi) t
  unfolding every_key under_prefix
  owned-shift lo hi [] = refl
  owned-shift lo hi (r ∷ t) = rw (owns-shift old lo hi r.key, owned-shift lo hi t)

  leaf-shift : (lo hi : List ℕ) (t : List Row)
      → every_key (owns (old ++ lo) (old ++ hi)) (under_prefix (shared (old ++ lo) (old ++ hi)) t) ≡ every_key (owns lo hi) (under_prefix (shared lo hi) t)
  leaf-shift lo hi t = rw (shared-append old lo hi, under-under old (shared lo hi) t) (owned-shift lo hi (under_prefix (shared lo hi) t))

  first-shift : (l lo : List ℕ) (f : Forest) → first_pivot (old ++ l) (old ++ lo) f ≡ first_pivot l lo f
  unfolding first_pivot
  first-shift l lo end = refl
  first-shift l lo (tree s t f) = rw (append_assoc old l s) (same-append old (l ++ s) lo)

  pivot-shift : (l lo hi s : List ℕ) → owns (old ++ lo) (old ++ hi) ((old ++ l) ++ s) ≡ owns lo hi (l ++ s)
  pivot-shift l lo hi s = rw (append_assoc old l s) (owns-shift old lo hi (l ++ s))

  rise-shift : (l hi s : List ℕ) (f : Forest) → before ((old ++ l) ++ s) (high_of (old ++ l) (old ++ hi) f) ≡ before (l ++ s) (high_of l hi f)
  rise-shift l hi s f = rw (append_assoc old l s, high-shift old l hi f) (before-append old (l ++ s) (high_of l hi f))

  branch-shift : (l hi s : List ℕ) (t : Tree) (f : Forest)
      → sound_tree t ((old ++ l) ++ s) (high_of (old ++ l) (old ++ hi) f) ≡ sound_tree t (old ++ (l ++ s)) (old ++ high_of l hi f)
  branch-shift l hi s t f = rw (append_assoc old l s, high-shift old l hi f)

  branch-rows : (l hi s : List ℕ) (t : Tree) (f : Forest) → rows t ((old ++ l) ++ s) (high_of (old ++ l) (old ++ hi) f) ≡ rows t (old ++ (l ++ s)) (old ++ high_of l hi f)
  branch-rows l hi s t f = rw (append_assoc old l s, high-shift old l hi f)

module _ (old new : List ℕ) where
  swing-leaf : (i : ℕ) (rs : List Row) (lo hi : List ℕ) → sound_tree (leaf i rs) (old ++ lo) (old ++ hi) ≡ true
      → every_key well_formed (rows (leaf i rs) (new ++ lo) (new ++ hi)) ≡ true → sound_tree (leaf i rs) (new ++ lo) (new ++ hi) ≡ true
  unfolding sound_tree rows
  swing-leaf i rs lo hi e g =
      let l : List ℕ = shared (old ++ lo) (old ++ hi) in
      let o : every_key (owns (old ++ lo) (old ++ hi)) (under_prefix l rs) ≡ true = and_right (every_key well_formed (under_prefix l rs)) _ (and_left _ _ (and_left _ _ e)) in
      both (both (both g (leaf-shift new lo hi rs ∙ sym (leaf-shift old lo hi rs) ∙ o))
      (and_right (every_key well_formed (under_prefix l rs) && every_key (owns (old ++ lo) (old ++ hi)) (under_prefix l rs)) _ (and_left _ _ e)))
      (and_right (every_key well_formed (under_prefix l rs) && every_key (owns (old ++ lo) (old ++ hi)) (under_prefix l rs) && rising rs) _ e)

  swing-inner : (i : ℕ) (f : Forest) (lo hi : List ℕ) → sound_tree (interior i f []) (old ++ lo) (old ++ hi) ≡ true
      → (sound_forest f (old ++ shared lo hi) (old ++ lo) (old ++ hi) ≡ true → sound_forest f (new ++ shared lo hi) (new ++ lo) (new ++ hi) ≡ true)
      → sound_tree (interior i f []) (new ++ lo) (new ++ hi) ≡ true
  unfolding sound_tree sound_messages
  swing-inner i f lo hi e on =
      let l : List ℕ = shared (old ++ lo) (old ++ hi) in
      let z : l ≡ old ++ shared lo hi = shared-append old lo hi in
      let first : first_pivot l (old ++ lo) f ≡ true = and_left _ _ (and_left _ _ e) in
      let branches : sound_forest f l (old ++ lo) (old ++ hi) ≡ true = and_right (first_pivot l (old ++ lo) f) _ (and_left _ _ e) in
      rw (shared-append new lo hi)
      (both (both (first-shift new (shared lo hi) lo f ∙ sym (first-shift old (shared lo hi) lo f) ∙ ap (λ x. first_pivot x (old ++ lo) f) (sym z) ∙ first)
      (on (ap (λ x. sound_forest f x (old ++ lo) (old ++ hi)) (sym z) ∙ branches))) refl)

  swing-branch : (s : List ℕ) (t : Tree) (f : Forest) (l lo hi : List ℕ) → sound_forest (tree s t f) (old ++ l) (old ++ lo) (old ++ hi) ≡ true
      → (sound_tree t (old ++ (l ++ s)) (old ++ high_of l hi f) ≡ true → sound_tree t (new ++ (l ++ s)) (new ++ high_of l hi f) ≡ true)
      → (sound_forest f (old ++ l) (old ++ lo) (old ++ hi) ≡ true → sound_forest f (new ++ l) (new ++ lo) (new ++ hi) ≡ true)
      → sound_forest (tree s t f) (new ++ l) (new ++ lo) (new ++ hi) ≡ true
  unfolding sound_forest
  swing-branch s t f l lo hi e here on =
      let p : Parts s t f (old ++ l) (old ++ lo) (old ++ hi) = parts s t f (old ++ l) (old ++ lo) (old ++ hi) e in
      both (both (both (pivot-shift new l lo hi s ∙ sym (pivot-shift old l lo hi s) ∙ p.owned) (rise-shift new l hi s f ∙ sym (rise-shift old l hi s f) ∙ p.rises))
      (branch-shift new l hi s t f ∙ here (sym (branch-shift old l hi s t f) ∙ p.first))) (on p.later)

  inner-rows : (i : ℕ) (f : Forest) (lo hi : List ℕ) → every_key well_formed (rows (interior i f []) (new ++ lo) (new ++ hi)) ≡ true
      → every_key well_formed (rows_in f (new ++ shared lo hi) (new ++ hi)) ≡ true
  unfolding rows apply_all
  inner-rows i f lo hi e = ap (λ x. every_key well_formed (rows_in f x (new ++ hi))) (sym (shared-append new lo hi)) ∙ e

  forest-rows : (s : List ℕ) (t : Tree) (f : Forest) (l hi : List ℕ) → every_key well_formed (rows_in (tree s t f) (new ++ l) (new ++ hi)) ≡ true
      → (every_key well_formed (rows t (new ++ (l ++ s)) (new ++ high_of l hi f)) ≡ true) × (every_key well_formed (rows_in f (new ++ l) (new ++ hi)) ≡ true)
  unfolding rows_in
  forest-rows s t f l hi e = (
    ap (every_key well_formed) (sym (branch-rows new l hi s t f)) ∙ every-left well_formed (rows t ((new ++ l) ++ s) (high_of (new ++ l) (new ++ hi) f)) (rows_in f (new ++ l) (new ++ hi)) e,
    every-right well_formed (rows t ((new ++ l) ++ s) (high_of (new ++ l) (new ++ hi) f)) (rows_in f (new ++ l) (new ++ hi)) e,
  )

  none-sound : (l lo hi : List ℕ) → sound_forest end l lo hi ≡ true
  unfolding sound_forest
  none-sound l lo hi = refl

  mutual
    unfolding still still_in

    pub swing-sound : (t : Tree) (lo hi : List ℕ) → still t ≡ true → sound_tree t (old ++ lo) (old ++ hi) ≡ true
        → every_key well_formed (rows t (new ++ lo) (new ++ hi)) ≡ true → sound_tree t (new ++ lo) (new ++ hi) ≡ true
    swing-sound (unread i) lo hi q e g = absurd (not-unread i (old ++ lo) (old ++ hi) e)
    swing-sound (leaf i rs) lo hi q e g = swing-leaf i rs lo hi e g
    swing-sound (interior i f []) lo hi q e g =
        swing-inner i f lo hi e (λ h. swing-sound-in f (shared lo hi) lo hi q h (inner-rows i f lo hi g))
    swing-sound (interior i f (m ∷ ms)) lo hi q e g = absurd (false≢true q)

    pub swing-sound-in : (f : Forest) (l lo hi : List ℕ) → still_in f ≡ true → sound_forest f (old ++ l) (old ++ lo) (old ++ hi) ≡ true
        → every_key well_formed (rows_in f (new ++ l) (new ++ hi)) ≡ true → sound_forest f (new ++ l) (new ++ lo) (new ++ hi) ≡ true
    swing-sound-in end l lo hi q e g = none-sound (new ++ l) (new ++ lo) (new ++ hi)
    swing-sound-in (tree s t f) l lo hi q e g =
        swing-branch s t f l lo hi e
        (λ h. swing-sound t (l ++ s) (high_of l hi f) (and_left _ _ q) h (forest-rows s t f l hi g).0)
        (λ h. swing-sound-in f l lo hi (and_right (still t) _ q) h (forest-rows s t f l hi g).1)

-- The swing from `old` to `new`: the tree under `old` and `old` FF, put under `new` and `new` FF.
renamed-under : (old new : List ℕ) (t : List Row) → renamed old new (under_prefix old t) ≡ under_prefix new t
unfolding renamed under_prefix
renamed-under old new [] = refl
renamed-under old new (r ∷ t) = rw (drop-append_seam old r.key) (ap (λ l. record { key = new ++ r.key; value = r.value } ∷ l) (renamed-under old new t))

pub swing-rows : (old new lo hi : List ℕ) (t : Tree) → rows t (new ++ lo) (new ++ hi) ≡ renamed old new (rows t (old ++ lo) (old ++ hi))
swing-rows old new lo hi t = rows-shift new t lo hi ∙ sym (renamed-under old new (rows t lo hi)) ∙ ap (renamed old new) (sym (rows-shift old t lo hi))

pub swing-good : {h : ℕ} (old new lo hi : List ℕ) (t : Tree) → Good h t (old ++ lo) (old ++ hi)
    → every_key well_formed (renamed old new (rows t (old ++ lo) (old ++ hi))) ≡ true → Good h t (new ++ lo) (new ++ hi)
swing-good old new lo hi t g e =
    record { sound = swing-sound old new t lo hi g.holds_no_message g.sound (ap (every_key well_formed) (swing-rows old new lo hi t) ∙ e); holds_no_message = g.holds_no_message; level = g.level }

-- the paths of a settled sound tree are well formed
leaf-formed : (i : ℕ) (rs : List Row) (lo hi : List ℕ) → sound_tree (leaf i rs) lo hi ≡ true → every_key well_formed (rows (leaf i rs) lo hi) ≡ true
unfolding sound_tree rows
leaf-formed i rs lo hi e = and_left _ _ (and_left _ _ (and_left _ _ e))

mutual
  unfolding still still_in rows rows_in apply_all every_key

  pub rows-formed : (t : Tree) (lo hi : List ℕ) → still t ≡ true → sound_tree t lo hi ≡ true → every_key well_formed (rows t lo hi) ≡ true
  rows-formed (unread i) lo hi q e = refl
  rows-formed (leaf i rs) lo hi q e = leaf-formed i rs lo hi e
  rows-formed (interior i f []) lo hi q e = rows-formed-in f (shared lo hi) lo hi q (inner i f [] lo hi e).branches
  rows-formed (interior i f (m ∷ ms)) lo hi q e = absurd (false≢true q)

  pub rows-formed-in : (f : Forest) (l lo hi : List ℕ) → still_in f ≡ true → sound_forest f l lo hi ≡ true → every_key well_formed (rows_in f l hi) ≡ true
  rows-formed-in end l lo hi q e = refl
  rows-formed-in (tree s t f) l lo hi q e =
      every_append well_formed (rows t (l ++ s) (high_of l hi f)) (rows_in f l hi)
      (rows-formed t (l ++ s) (high_of l hi f) (and_left _ _ q) (parts s t f l lo hi e).first)
      (rows-formed-in f l lo hi (and_right (still t) _ q) (parts s t f l lo hi e).later)
