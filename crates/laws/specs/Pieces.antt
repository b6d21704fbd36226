-- Trees side by side, with full pivots: the pieces of which a node is made, and that a cut leaves.
use Rattle.std.specs.Prelude.{ℕ, zero, suc, ◌≡◌, refl, List, [], ◌∷◌, ◌++◌, Bool, true, false, ◌&&◌, length, drop, eqb}
use Rattle.image.specs.Prelude.{sym, ap, ap₂, ◌∙◌, append-nil, append_assoc, false≢true}
use Rattle.image.specs.Bytes.{before, shared}
use Rattle.image.specs.Image.{Tree, unread, leaf, interior, Forest, end, tree}
use Rattle.image.specs.Meaning.{high_of, apply_all, rows, rows_in}
use Rattle.image.specs.Sound.{sound_tree, sound_forest, sound_messages, first_pivot}
use Rattle.octets.specs.Order.{and_left, and_right, not_so, before-irrefl, before-le, before-trans, before-asym, begins-split, same-eq, same_refl, refuted}
use Rattle.laws.specs.Rising.{both}
use Rattle.laws.specs.LookupTable.{parts, inner, does-own}
use Rattle.laws.specs.Filter.{owned-begins}

-- no messages below
unfoldable mutual
  pub still : Tree → Bool
  still (unread i) = true
  still (leaf i rs) = true
  still (interior i f []) = still_in f
  still (interior i f (m ∷ ms)) = false

  pub still_in : Forest → Bool
  still_in end = true
  still_in (tree s t f) = still t && still_in f

-- leaves of level 1, and each child one level under its parent
unfoldable mutual
  pub levelled : Tree → ℕ → Bool
  levelled (unread i) h = false
  levelled (leaf i rs) h = eqb h 1
  levelled (interior i f ms) zero = false
  levelled (interior i f ms) (suc h) = levelled_in f h

  pub levelled_in : Forest → ℕ → Bool
  levelled_in end h = true
  levelled_in (tree s t f) h = levelled t h && levelled_in f h

-- what every slice keeps of the tree of a node with the pivots lo and hi
pub record Good (h : ℕ) (t : Tree) (lo hi : List ℕ) : Type 0 where
  pub sound : sound_tree t lo hi ≡ true
  pub holds_no_message : still t ≡ true
  pub level : levelled t h ≡ true

-- trees side by side with full pivots, from a up to b
pub data Run (h : ℕ) : Forest → List ℕ → List ℕ → Type 0 where
  done : {a : List ℕ} → Run h end a a
  more : {a m b : List ℕ} {t : Tree} {f : Forest} → before a m ≡ true → Good h t a m → Run h f m b → Run h (tree a t f) a b

unfoldable pub joined : Forest → Forest → Forest
joined end g = g
joined (tree s t f) g = tree s t (joined f g)

-- stored pivots made full, and full ones stored
unfoldable pub raise : List ℕ → Forest → Forest
raise l end = end
raise l (tree s t f) = tree (l ++ s) t (raise l f)

unfoldable pub lower : List ℕ → Forest → Forest
lower l end = end
lower l (tree s t f) = tree (drop (length l) s) t (lower l f)

-- a node with the pivots lo and hi over pieces; no node over none
unfoldable pub node : ℕ → List ℕ → List ℕ → Forest → Tree
node n lo hi f = interior n (lower (shared lo hi) f) []

unfoldable pub over : ℕ → List ℕ → List ℕ → Forest → Forest
over n lo hi end = end
over n lo hi (tree s t f) = tree lo (node n lo hi (tree s t f)) end

pub run-high : {h : ℕ} {f : Forest} {m b : List ℕ} → Run h f m b → high_of [] b f ≡ m
unfolding high_of
run-high done = refl
run-high (more lt g r) = refl

pub run-le : {h : ℕ} {f : Forest} {m b : List ℕ} → Run h f m b → before b m ≡ false
run-le (done {a}) = before-irrefl a
run-le (more {a} {m} {b} lt g r) = before-asym a b (before-le a m b lt (run-le r))

pub run_join : {h : ℕ} {f g : Forest} {a m b : List ℕ} → Run h f a m → Run h g m b → Run h (joined f g) a b
unfolding joined
run_join done q = q
run_join (more lt x r) q = more lt x (run_join r q)

-- the first piece's rows, then the others'
rows_more : {h : ℕ} {f : Forest} {m b : List ℕ} (a : List ℕ) (t : Tree) → Run h f m b → rows_in (tree a t f) [] b ≡ rows t a m ++ rows_in f [] b
unfolding rows_in
rows_more {f} {b} a t r = ap (λ x. rows t a x ++ rows_in f [] b) (run-high r)

pub rows_join : {h : ℕ} {f g : Forest} {a m b : List ℕ} → Run h f a m → Run h g m b → rows_in (joined f g) [] b ≡ rows_in f [] m ++ rows_in g [] b
unfolding joined rows_in
rows_join done q = refl
rows_join {g = g} {b = b} (more {a} {m} {b = c} {t} {f} lt x r) q =
    rows_more a t (run_join r q) ∙ ap (λ u. rows t a m ++ u) (rows_join r q)
    ∙ sym (append_assoc (rows t a m) (rows_in f [] c) (rows_in g [] b))
    ∙ ap (λ u. u ++ rows_in g [] b) (sym (rows_more a t r))

-- the children of a node, as pieces
pub high-raise : (l hi : List ℕ) (f : Forest) → high_of [] hi (raise l f) ≡ high_of l hi f
unfolding high_of raise
high-raise l hi end = refl
high-raise l hi (tree s t f) = refl

pub rows-raise : (l hi : List ℕ) (f : Forest) → rows_in (raise l f) [] hi ≡ rows_in f l hi
unfolding rows_in raise
rows-raise l hi end = refl
rows-raise l hi (tree s t f) = rw (high-raise l hi f, rows-raise l hi f)

sound-raise : (l lo hi : List ℕ) (f : Forest) → sound_forest (raise l f) [] lo hi ≡ sound_forest f l lo hi
unfolding sound_forest raise
sound-raise l lo hi end = refl
sound-raise l lo hi (tree s t f) = rw (high-raise l hi f, sound-raise l lo hi f)

still-lower : (l : List ℕ) (f : Forest) → still_in (lower l f) ≡ still_in f
unfolding still_in lower
still-lower l end = refl
still-lower l (tree s t f) = rw (still-lower l f)

level-lower : (l : List ℕ) (f : Forest) (h : ℕ) → levelled_in (lower l f) h ≡ levelled_in f h
unfolding levelled_in lower
level-lower l end h = refl
level-lower l (tree s t f) h = rw (level-lower l f h)

pub record Branches (h : ℕ) (f : Forest) (lifted lo hi : List ℕ) : Type 0 where
  pub sounds : sound_forest f lifted lo hi ≡ true
  pub quiets : still_in f ≡ true
  pub levels : levelled_in f h ≡ true

pub branch-first : {h : ℕ} (s : List ℕ) (t : Tree) (f : Forest) (lifted lo hi : List ℕ) → Branches h (tree s t f) lifted lo hi → Good h t (lifted ++ s) (high_of lifted hi f)
unfolding still_in levelled_in
branch-first s t f lifted lo hi k =
    record { sound = (parts s t f lifted lo hi k.sounds).first; holds_no_message = and_left _ _ k.quiets; level = and_left _ _ k.levels }

pub branch-later : {h : ℕ} (s : List ℕ) (t : Tree) (f : Forest) (lifted lo hi : List ℕ) → Branches h (tree s t f) lifted lo hi → Branches h f lifted lo hi
unfolding still_in levelled_in
branch-later {h} s t f lifted lo hi k =
    record { sounds = (parts s t f lifted lo hi k.sounds).later; quiets = and_right (still t) _ k.quiets; levels = and_right (levelled t h) _ k.levels }

pub branches-run : {h : ℕ} (f : Forest) (lifted lo hi : List ℕ) → Branches h f lifted lo hi → Run h (raise lifted f) (high_of lifted hi f) hi
unfolding raise high_of
branches-run end lifted lo hi k = done
branches-run (tree s t f) lifted lo hi k =
    more (parts s t f lifted lo hi k.sounds).rises (branch-first s t f lifted lo hi k) (branches-run f lifted lo hi (branch-later s t f lifted lo hi k))

-- pieces, as the children of a node over [a, b) or more
later-low : (a m n : List ℕ) → before m a ≡ false → before m n ≡ true → before n a ≡ false
later-low a m n e f = refuted (λ g. not_so (before-trans m n a f g) e)

pub run-branches : {h : ℕ} {f : Forest} {m b : List ℕ} (a : List ℕ) → before m a ≡ false → Run h f m b → Branches h f [] a b
unfolding sound_forest still_in levelled_in
run-branches a e done = record { sounds = refl; quiets = refl; levels = refl }
run-branches {h} a e (more {a = c} {m} {b} {t} {f} lt g r) =
    let k : Branches h f [] a b = run-branches a (later-low a c m e lt) r in
    let z : high_of [] b f ≡ m = run-high r in
    record {
      sounds =
          both (both (both (does-own a b c e (before-le c m b lt (run-le r))) (ap (before c) z ∙ lt)) (ap (sound_tree t c) z ∙ g.sound)) k.sounds;
      quiets = both g.holds_no_message k.quiets;
      levels = both g.level k.levels;
    }

back : {h : ℕ} {f : Forest} {m b : List ℕ} (a : List ℕ) → before m a ≡ false → Run h f m b → raise (shared a b) (lower (shared a b) f) ≡ f
unfolding raise lower
back a e done = refl
back a e (more {a = c} {m} {b} {t} {f} lt g r) =
    ap₂ (λ x y. tree x t y) (begins-split (shared a b) c (owned-begins a b c (does-own a b c e (before-le c m b lt (run-le r)))))
    (back a (later-low a c m e lt) r)

nonempty : {h : ℕ} {f : Forest} {a b : List ℕ} (l : List ℕ) → before a b ≡ true → Run h f a b → first_pivot [] a f ≡ true
unfolding first_pivot
nonempty l lt (done {a}) = not_so lt (before-irrefl a)
nonempty l lt (more {a} x g r) = same_refl a

first-raise : (l lo : List ℕ) (f : Forest) → first_pivot [] lo (raise l f) ≡ first_pivot l lo f
unfolding first_pivot raise
first-raise l lo end = refl
first-raise l lo (tree s t f) = refl

pub messages-none : (lo hi : List ℕ) → sound_messages lo hi [] ≡ true
unfolding sound_messages
messages-none lo hi = refl

-- a node over pieces
pub node-good : {h : ℕ} {f : Forest} {a b : List ℕ} (n : ℕ) → before a b ≡ true → Run h f a b → Good (suc h) (node n a b f) a b
unfolding node sound_tree still levelled
node-good {h} {f} {a} {b} n lt r =
    let k : Branches h f [] a b = run-branches a (before-irrefl a) r in
    let l : List ℕ = shared a b in
    let z : raise l (lower l f) ≡ f = back a (before-irrefl a) r in
    record {
      sound =
          both (both (sym (first-raise l a (lower l f)) ∙ ap (first_pivot [] a) z ∙ nonempty l lt r)
          (sym (sound-raise l a b (lower l f)) ∙ ap (λ x. sound_forest x [] a b) z ∙ k.sounds)) (messages-none a b);
      holds_no_message = still-lower l f ∙ k.quiets;
      level = level-lower l f h ∙ k.levels;
    }

pub node-rows : {h : ℕ} {f : Forest} {a b : List ℕ} (n : ℕ) → Run h f a b → rows (node n a b f) a b ≡ rows_in f [] b
unfolding node rows apply_all
node-rows {h} {f} {a} {b} n r =
    sym (rows-raise (shared a b) b (lower (shared a b) f)) ∙ ap (λ x. rows_in x [] b) (back a (before-irrefl a) r)

pub over-run : {h : ℕ} {f : Forest} {a b : List ℕ} (n : ℕ) → Run h f a b → Run (suc h) (over n a b f) a b
unfolding over
over-run n done = done
over-run n (more {a} {m} {b} lt g r) =
    let x : before a b ≡ true = before-le a m b lt (run-le r) in
    more x (node-good n x (more lt g r)) done

pub over-rows : {h : ℕ} {f : Forest} {a b : List ℕ} (n : ℕ) → Run h f a b → rows_in (over n a b f) [] b ≡ rows_in f [] b
unfolding over rows_in high_of
over-rows n done = refl
over-rows n (more lt g r) = append-nil _ ∙ node-rows n (more lt g r)

-- the children's first pivot is the node's low one
pub first-high : (l lo hi : List ℕ) (f : Forest) → first_pivot l lo f ≡ true → high_of l hi f ≡ lo
unfolding first_pivot high_of
first-high l lo hi end e = absurd (false≢true e)
first-high l lo hi (tree s t f) e = same-eq (l ++ s) lo e

pub inner-branches : {h : ℕ} (i : ℕ) (f : Forest) (lo hi : List ℕ) → Good (suc h) (interior i f []) lo hi → Branches h f (shared lo hi) lo hi
unfolding still levelled
inner-branches i f lo hi g = record { sounds = (inner i f [] lo hi g.sound).branches; quiets = g.holds_no_message; levels = g.level }

pub inner_first : {h : ℕ} (i : ℕ) (f : Forest) (lo hi : List ℕ) → Good h (interior i f []) lo hi → high_of (shared lo hi) hi f ≡ lo
unfolding sound_tree
inner_first i f lo hi g = first-high (shared lo hi) lo hi f (and_left _ _ (and_left _ _ g.sound))
