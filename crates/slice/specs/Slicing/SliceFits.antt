-- The nodes of the two parts of a cut fit, where those of the whole do.
use Rattle.std.specs.Prelude.{ℕ, zero, suc, ◌+◌, ◌*◌, ◌-◌, ◌≤◌, ◌≡◌, refl, List, [], ◌∷◌, ◌++◌, Bool, true, false, ◌&&◌, ◌||◌, length, leb}
use Rattle.image.specs.Prelude.{◌∙◌, false≢true, arith, length-append, length-drop, leb-true, le-leb, cases}
use Rattle.image.specs.Bytes.{before, begins, shared}
use Rattle.image.specs.Entry.{pivot_limit}
use Rattle.image.specs.Table.{Row, under_prefix}
use Rattle.image.specs.Image.{Tree, unread, leaf, interior, Forest, end, tree, entries_limit}
use Rattle.image.specs.Meaning.{high_of, rows_in}
use Rattle.image.specs.Sound.{sound_tree}
use Rattle.octets.specs.Beginnings.{begins-refl, begins-length, shared-left, shared-right, shared-most}
use Rattle.octets.specs.Order.{and_left, and_right, before-le, before-asym, between-begins, begins-trans}
use Rattle.laws.specs.Rising.{both}
use Rattle.laws.specs.LookupTable.{parts, under-high}
use Rattle.laws.specs.Filter.{keep, up_to, since, lower_rows}
use Rattle.laws.specs.Pieces.{still, levelled, Good, Run, done, more, joined, raise, lower, node, over, run-le, high-raise, Branches, branch-first, branch-later, inner-branches}
use Rattle.slice.specs.Slicing.Slice.{rest_in, packed, after, left_of, left_in, right_of, edge_in}
use Rattle.slice.specs.Slicing.SliceLaws.{Cuts, inner-cuts}

-- the bytes of a leaf's pairs, and of a node's children
unfoldable pub pairs_size : List Row → ℕ
pairs_size [] = 0
pairs_size (r ∷ t) = 6 + length r.key + length r.value + pairs_size t

unfoldable pub branches_size : Forest → ℕ
branches_size end = 0
branches_size (tree s t f) = 6 + length s + branches_size f

unfoldable pub short_in : Forest → Bool
short_in end = true
short_in (tree s t f) = leb (length s) pivot_limit && short_in f

-- every node of a settled tree fits: its entries, and the suffixes of its pivots
unfoldable mutual
  pub fits : Tree → Bool
  fits (unread i) = true
  fits (leaf i rs) = leb (pairs_size rs) entries_limit
  fits (interior i f ms) = leb (branches_size f) entries_limit && short_in f && fits_in f

  pub fits_in : Forest → Bool
  fits_in end = true
  fits_in (tree s t f) = fits t && fits_in f

-- the same of pieces with full pivots, of which a node lifts d bytes
unfoldable pub size_at : ℕ → Forest → ℕ
size_at d end = 0
size_at d (tree s t f) = 6 + (length s - d) + size_at d f

unfoldable pub short_at : ℕ → Forest → Bool
short_at d end = true
short_at d (tree s t f) = leb (length s - d) pivot_limit && short_at d f

unfoldable pub count : Forest → ℕ
count end = 0
count (tree s t f) = suc (count f)

-- a part of a range lifts no less
pub lifts-low : (lo k hi : List ℕ) → before lo k ≡ true → before k hi ≡ true → length (shared lo hi) ≤ length (shared lo k)
lifts-low lo k hi a b =
    begins-length (shared lo hi) (shared lo k)
    (shared-most (shared lo hi) lo k (shared-left lo hi) (between-begins lo hi k (before-asym lo k a) b))

pub lifts-high : (lo k hi : List ℕ) → before k lo ≡ false → before k hi ≡ true → length (shared lo hi) ≤ length (shared k hi)
lifts-high lo k hi a b =
    begins-length (shared lo hi) (shared k hi) (shared-most (shared lo hi) k hi (between-begins lo hi k a b) (shared-right lo hi))

-- a leaf
leaf-size : (l l' : List ℕ) (test : List ℕ → Bool) (rs : List Row) → length l ≤ length l'
    → pairs_size (lower_rows l' (keep test (under_prefix l rs))) ≤ pairs_size rs
unfolding pairs_size lower_rows keep under_prefix
leaf-size l l' test [] h = omega arith
leaf-size l l' test (r ∷ rs) h =
    cases (test (l ++ r.key)) (λ e. rw (e, length-drop (length l') (l ++ r.key), length-append l r.key) (omega (arith, leaf-size l l' test rs h)))
    (λ e. rw e (omega (arith, leaf-size l l' test rs h)))

leaf-fits : (i n : ℕ) (l l' : List ℕ) (test : List ℕ → Bool) (rs : List Row) → length l ≤ length l' → fits (leaf i rs) ≡ true
    → fits (leaf n (lower_rows l' (keep test (under_prefix l rs)))) ≡ true
unfolding fits
leaf-fits i n l l' test rs h e =
    le-leb (pairs_size (lower_rows l' (keep test (under_prefix l rs)))) entries_limit (omega (arith, leb-true (pairs_size rs) entries_limit e, leaf-size l l' test rs h))

-- pieces
size-lower : (l : List ℕ) (f : Forest) → branches_size (lower l f) ≡ size_at (length l) f
unfolding branches_size size_at lower
size-lower l end = refl
size-lower l (tree s t f) = rw (length-drop (length l) s, size-lower l f)

short-lower : (l : List ℕ) (f : Forest) → short_in (lower l f) ≡ short_at (length l) f
unfolding short_in short_at lower
short-lower l end = refl
short-lower l (tree s t f) = rw (length-drop (length l) s, short-lower l f)

pub fits-lower : (l : List ℕ) (f : Forest) → fits_in (lower l f) ≡ fits_in f
unfolding fits_in lower
fits-lower l end = refl
fits-lower l (tree s t f) = rw (fits-lower l f)

pub fits-raise : (l : List ℕ) (f : Forest) → fits_in (raise l f) ≡ fits_in f
unfolding fits_in raise
fits-raise l end = refl
fits-raise l (tree s t f) = rw (fits-raise l f)

pub fits-joined : (f g : Forest) → fits_in f ≡ true → fits_in g ≡ true → fits_in (joined f g) ≡ true
unfolding fits_in joined
fits-joined end g a b = b
fits-joined (tree s t f) g a b = both (and_left (fits t) _ a) (fits-joined f g (and_right (fits t) _ a) b)

size-joined : (d : ℕ) (f g : Forest) → size_at d (joined f g) ≡ size_at d f + size_at d g
unfolding size_at joined
size-joined d end g = omega arith
size-joined d (tree s t f) g = rw (size-joined d f g) (omega arith)

pub short-joined : (d : ℕ) (f g : Forest) → short_at d f ≡ true → short_at d g ≡ true → short_at d (joined f g) ≡ true
unfolding short_at joined
short-joined d end g a b = b
short-joined d (tree s t f) g a b =
    both (and_left (leb (length s - d) pivot_limit) _ a) (short-joined d f g (and_right (leb (length s - d) pivot_limit) _ a) b)

pub count-joined : (f g : Forest) → count (joined f g) ≡ count f + count g
unfolding count joined
count-joined end g = omega arith
count-joined (tree s t f) g = rw (count-joined f g) (omega arith)

pub short-size : (d : ℕ) (f : Forest) → short_at d f ≡ true → size_at d f ≤ 71 * count f
unfolding size_at short_at count
short-size d end e = omega arith
short-size d (tree s t f) e =
    let h : size_at d f ≤ 71 * count f = short-size d f (and_right (leb (length s - d) 65) _ e) in
    let k : length s - d ≤ 65 = leb-true (length s - d) 65 (and_left _ _ e) in
    omega arith

pub node-fits : (n : ℕ) (lo hi : List ℕ) (f : Forest) → size_at (length (shared lo hi)) f ≤ entries_limit → short_at (length (shared lo hi)) f ≡ true → fits_in f ≡ true
    → fits (node n lo hi f) ≡ true
unfolding node fits
node-fits n lo hi f a b c =
    both (both (le-leb (branches_size (lower (shared lo hi) f)) entries_limit (omega (arith, size-lower (shared lo hi) f))) (short-lower (shared lo hi) f ∙ b)) (fits-lower (shared lo hi) f ∙ c)

pub over-fits : (n : ℕ) (lo hi : List ℕ) (f : Forest) → size_at (length (shared lo hi)) f ≤ entries_limit → short_at (length (shared lo hi)) f ≡ true → fits_in f ≡ true
    → fits_in (over n lo hi f) ≡ true
unfolding over fits_in
over-fits n lo hi end a b c = refl
over-fits n lo hi (tree s t f) a b c = both (node-fits n lo hi (tree s t f) a b c) refl

over-size : (d n : ℕ) (lo hi : List ℕ) (f : Forest) → size_at d (over n lo hi f) ≤ 6 + (length lo - d)
unfolding over size_at
over-size d n lo hi end = omega arith
over-size d n lo hi (tree s t f) = omega arith

pub over-count : (n : ℕ) (lo hi : List ℕ) (f : Forest) → count (over n lo hi f) ≤ 1
unfolding over count
over-count n lo hi end = omega arith
over-count n lo hi (tree s t f) = omega arith

over-short : (d n : ℕ) (lo hi : List ℕ) (f : Forest) → length lo - d ≤ pivot_limit → short_at d (over n lo hi f) ≡ true
unfolding over short_at
over-short d n lo hi end h = refl
over-short d n lo hi (tree s t f) h = both (le-leb _ _ h) refl

-- the rest's first pivot is one of its own
over-high-short : (d n : ℕ) (hi : List ℕ) (f : Forest) → short_at d f ≡ true → short_at d (over n (high_of [] hi f) hi f) ≡ true
unfolding over short_at high_of
over-high-short d n hi end h = refl
over-high-short d n hi (tree s t f) h = both (and_left (leb (length s - d) pivot_limit) _ h) refl

size-raise : (d : ℕ) (l : List ℕ) (f : Forest) → length l ≤ d → size_at d (raise l f) ≤ branches_size f
unfolding size_at branches_size raise
size-raise d l end h = omega arith
size-raise d l (tree s t f) h = rw (length-append l s) (omega (arith, size-raise d l f h))

short-pivot : (d : ℕ) (l s : List ℕ) → length l ≤ d → leb (length s) pivot_limit ≡ true → leb (length (l ++ s) - d) pivot_limit ≡ true
short-pivot d l s h e = le-leb (length (l ++ s) - d) pivot_limit (rw (length-append l s) (omega (arith, leb-true (length s) pivot_limit e)))

short-raise : (d : ℕ) (l : List ℕ) (f : Forest) → length l ≤ d → short_in f ≡ true → short_at d (raise l f) ≡ true
unfolding short_at short_in raise
short-raise d l end h e = refl
short-raise d l (tree s t f) h e =
    both (short-pivot d l s h (and_left _ _ e)) (short-raise d l f h (and_right (leb (length s) pivot_limit) _ e))

-- the children from the cut on, and what lies before it
rest-size : (d : ℕ) (f : Forest) (lifted hi k : List ℕ) → length lifted ≤ d → size_at d (rest_in f lifted hi k) ≤ branches_size f
unfolding rest_in size_at branches_size
rest-size d end lifted hi k h = omega arith
rest-size d (tree s t f) lifted hi k h =
    cases (before k (high_of lifted hi f))
    (λ a. cases (before (lifted ++ s) k) (λ b. rw (a, b) (omega (arith, size-raise d lifted f h)))
    (λ b. rw (a, b, length-append lifted s) (omega (arith, size-raise d lifted f h))))
    (λ a. rw a (omega (arith, rest-size d f lifted hi k h)))

rest-short : (d : ℕ) (f : Forest) (lifted hi k : List ℕ) → length lifted ≤ d → short_in f ≡ true → short_at d (rest_in f lifted hi k) ≡ true
unfolding rest_in short_at short_in
rest-short d end lifted hi k h e = refl
rest-short d (tree s t f) lifted hi k h e =
    cases (before k (high_of lifted hi f))
    (λ a. cases (before (lifted ++ s) k) (λ b. rw (a, b) (short-raise d lifted f h (and_right (leb (length s) pivot_limit) _ e)))
    (λ b. rw (a, b) (both (short-pivot d lifted s h (and_left _ _ e)) (short-raise d lifted f h (and_right (leb (length s) pivot_limit) _ e)))))
    (λ a. rw a (rest-short d f lifted hi k h (and_right (leb (length s) pivot_limit) _ e)))

rest-fits : (f : Forest) (lifted hi k : List ℕ) → fits_in f ≡ true → fits_in (rest_in f lifted hi k) ≡ true
unfolding rest_in fits_in
rest-fits end lifted hi k e = refl
rest-fits (tree s t f) lifted hi k e =
    cases (before k (high_of lifted hi f))
    (λ a. cases (before (lifted ++ s) k) (λ b. rw (a, b) (fits-raise lifted f ∙ and_right (fits t) _ e))
    (λ b. rw (a, b) (both (and_left (fits t) _ e) (fits-raise lifted f ∙ and_right (fits t) _ e))))
    (λ a. rw a (rest-fits f lifted hi k (and_right (fits t) _ e)))

enough : (m : ℕ) → m ≤ 142 → m ≤ entries_limit
enough m h = omega arith

module _ (fresh : ℕ → ℕ) where
  left-size : (d : ℕ) (f : Forest) (lifted hi k : List ℕ) (at : ℕ) → length lifted ≤ d → size_at d (left_in fresh f lifted hi k at) ≤ branches_size f
  unfolding left_in size_at branches_size
  left-size d end lifted hi k at h = omega arith
  left-size d (tree s t f) lifted hi k at h =
      cases (before k (high_of lifted hi f))
      (λ a. cases (before (lifted ++ s) k) (λ b. rw (a, b, length-append lifted s) (omega arith)) (λ b. rw (a, b) (omega arith)))
      (λ a. rw (a, length-append lifted s) (omega (arith, left-size d f lifted hi k at h)))

  left_short : (d : ℕ) (f : Forest) (lifted hi k : List ℕ) (at : ℕ) → length lifted ≤ d → short_in f ≡ true → short_at d (left_in fresh f lifted hi k at) ≡ true
  unfolding left_in short_at short_in
  left_short d end lifted hi k at h e = refl
  left_short d (tree s t f) lifted hi k at h e =
      cases (before k (high_of lifted hi f))
      (λ a. cases (before (lifted ++ s) k) (λ b. rw (a, b) (both (short-pivot d lifted s h (and_left _ _ e)) refl)) (λ b. rw (a, b)))
      (λ a. rw a (both (short-pivot d lifted s h (and_left _ _ e)) (left_short d f lifted hi k at h (and_right (leb (length s) pivot_limit) _ e))))

  -- the pieces of a right part: at most two, and their pivots are short where the whole's are and the cut is
  pub right-count : (w : Bool) (t : Tree) (lo hi k : List ℕ) (at : ℕ) → count (right_of fresh w t lo hi k at) ≤ 2
  unfolding right_of packed count
  right-count w (unread i) lo hi k at = omega arith
  right-count w (leaf i rs) lo hi k at = omega arith
  right-count w (interior i f ms) lo hi k at = go w (edge_in fresh w f (shared lo hi) hi k (after w at)) (rest_in f (shared lo hi) hi k)
    where
      go : (v : Bool) (e r : Forest) → count (packed v (fresh at) (fresh (suc at)) k hi e r) ≤ 2
      go true e r =
          omega (
            arith,
            count-joined (over (fresh at) k (high_of [] hi r) e) (over (fresh (suc at)) (high_of [] hi r) hi r),
            over-count (fresh at) k (high_of [] hi r) e,
            over-count (fresh (suc at)) (high_of [] hi r) hi r,
          )
      go false e r = omega (arith, over-count (fresh at) k hi (joined e r))

  pub right_short : (w : Bool) (d : ℕ) (t : Tree) (lo hi k : List ℕ) (at : ℕ) → fits t ≡ true → length (shared lo hi) ≤ d → length k - d ≤ pivot_limit
      → short_at d (right_of fresh w t lo hi k at) ≡ true
  unfolding right_of packed short_at fits
  right_short w d (unread i) lo hi k at e h g = refl
  right_short w d (leaf i rs) lo hi k at e h g = both (le-leb _ _ g) refl
  right_short w d (interior i f ms) lo hi k at e h g =
      go w (edge_in fresh w f (shared lo hi) hi k (after w at)) (rest_in f (shared lo hi) hi k)
      (rest-short d f (shared lo hi) hi k h (and_right (leb (branches_size f) entries_limit) _ (and_left _ _ e)))
    where
      go : (v : Bool) (e r : Forest) → short_at d r ≡ true → short_at d (packed v (fresh at) (fresh (suc at)) k hi e r) ≡ true
      go true e r q =
          short-joined d (over (fresh at) k (high_of [] hi r) e) (over (fresh (suc at)) (high_of [] hi r) hi r)
          (over-short d (fresh at) k (high_of [] hi r) e g) (over-high-short d (fresh (suc at)) hi r q)
      go false e r q = over-short d (fresh at) k hi (joined e r) g

  narrow_size : (d : ℕ) (t : Tree) (lo hi k : List ℕ) (at : ℕ) → size_at d (right_of fresh false t lo hi k at) ≤ 6 + (length k - d)
  unfolding right_of packed size_at
  narrow_size d (unread i) lo hi k at = omega arith
  narrow_size d (leaf i rs) lo hi k at = omega arith
  narrow_size d (interior i f ms) lo hi k at =
      over-size d (fresh at) k hi (joined (edge_in fresh false f (shared lo hi) hi k (after false at)) (rest_in f (shared lo hi) hi k))

  edge-short : (w : Bool) (f : Forest) (lifted hi k : List ℕ) (at : ℕ) → fits_in f ≡ true → length k ≤ pivot_limit
      → short_at (length (shared k (high_of [] hi (rest_in f lifted hi k)))) (edge_in fresh w f lifted hi k at) ≡ true
  unfolding edge_in rest_in short_at fits_in
  edge-short w end lifted hi k at e g = refl
  edge-short w (tree s t f) lifted hi k at e g =
      go (before k (high_of lifted hi f)) refl (before (lifted ++ s) k) refl (edge-short w f lifted hi k at (and_right (fits t) _ e) g)
    where
      go : (x : Bool) → before k (high_of lifted hi f) ≡ x → (y : Bool) → before (lifted ++ s) k ≡ y
          → short_at (length (shared k (high_of [] hi (rest_in f lifted hi k)))) (edge_in fresh w f lifted hi k at) ≡ true
          → short_at (length (shared k (high_of [] hi (rest_in (tree s t f) lifted hi k)))) (edge_in fresh w (tree s t f) lifted hi k at) ≡ true
      go true a true b ih =
          rw (a, b, high-raise lifted hi f)
          (right_short w (length (shared k (high_of lifted hi f))) t (lifted ++ s) (high_of lifted hi f) k at (and_left (fits t) _ e)
          (lifts-high (lifted ++ s) k (high_of lifted hi f) (before-asym (lifted ++ s) k b) a) (omega arith))
      go true a false b ih = rw (a, b)
      go false a y b ih = rw a ih

  edge_count : (w : Bool) (f : Forest) (lifted hi k : List ℕ) (at : ℕ) → count (edge_in fresh w f lifted hi k at) ≤ 2
  unfolding edge_in count
  edge_count w end lifted hi k at = omega arith
  edge_count w (tree s t f) lifted hi k at =
      cases (before k (high_of lifted hi f))
      (λ a. cases (before (lifted ++ s) k) (λ b. rw (a, b) (right-count w t (lifted ++ s) (high_of lifted hi f) k at)) (λ b. rw (a, b) (omega arith)))
      (λ a. rw a (edge_count w f lifted hi k at))

  -- one node: the cut's suffix is empty, so the node is no larger
  narrow_both : (d : ℕ) (f : Forest) (lifted hi k : List ℕ) (at : ℕ) → length lifted ≤ d → length k ≤ d
      → size_at d (edge_in fresh false f lifted hi k at) + size_at d (rest_in f lifted hi k) ≤ branches_size f
  unfolding edge_in rest_in size_at branches_size
  narrow_both d end lifted hi k at h g = omega arith
  narrow_both d (tree s t f) lifted hi k at h g =
      cases (before k (high_of lifted hi f))
      (λ a. cases (before (lifted ++ s) k) (λ b. rw (a, b) (omega (arith, narrow_size d t (lifted ++ s) (high_of lifted hi f) k at, size-raise d lifted f h)))
      (λ b. rw (a, b, length-append lifted s) (omega (arith, size-raise d lifted f h))))
      (λ a. rw a (omega (arith, narrow_both d f lifted hi k at h g)))

  narrow_one : (d : ℕ) (t : Tree) (lo hi k : List ℕ) (at : ℕ) → length k - d ≤ pivot_limit → short_at d (right_of fresh false t lo hi k at) ≡ true
  unfolding right_of packed short_at
  narrow_one d (unread i) lo hi k at g = refl
  narrow_one d (leaf i rs) lo hi k at g = both (le-leb _ _ g) refl
  narrow_one d (interior i f ms) lo hi k at g =
      over-short d (fresh at) k hi (joined (edge_in fresh false f (shared lo hi) hi k (after false at)) (rest_in f (shared lo hi) hi k)) g

  narrow_short : (d : ℕ) (f : Forest) (lifted hi k : List ℕ) (at : ℕ) → length k - d ≤ pivot_limit → short_at d (edge_in fresh false f lifted hi k at) ≡ true
  unfolding edge_in short_at
  narrow_short d end lifted hi k at g = refl
  narrow_short d (tree s t f) lifted hi k at g =
      cases (before k (high_of lifted hi f))
      (λ a. cases (before (lifted ++ s) k) (λ b. rw (a, b) (narrow_one d t (lifted ++ s) (high_of lifted hi f) k at g)) (λ b. rw (a, b)))
      (λ a. rw a (narrow_short d f lifted hi k at g))

  rest-node : {h : ℕ} {r : Forest} {x hi : List ℕ} (n : ℕ) (lo : List ℕ) → Run h r x hi → before x lo ≡ false
      → ((d : ℕ) → length (shared lo hi) ≤ d → (size_at d r ≤ entries_limit) × (short_at d r ≡ true)) → fits_in r ≡ true → fits_in (over n x hi r) ≡ true
  unfolding over fits_in
  rest-node n lo done b room e = refl
  rest-node n lo (more {a = x} {m} {b = hi} {t} {f} lt g r) b room e =
      let d : length (shared lo hi) ≤ length (shared x hi) = lifts-high lo x hi b (before-le x m hi lt (run-le r)) in
      both (node-fits n x hi (tree x t f) (room (length (shared x hi)) d).0 (room (length (shared x hi)) d).1 e) refl

  module _ (w : Bool) where
    -- a part's high pivot begins with the cut, where the whole's does
    pub narrow_high : {h : ℕ} (f : Forest) (lifted lo hi k : List ℕ) → Branches h f lifted lo hi → w || begins k hi ≡ true → before k (high_of lifted hi f) ≡ true
        → w || begins k (high_of lifted hi f) ≡ true
    unfolding high_of
    narrow_high end lifted lo hi k g e b = e
    narrow_high (tree s t f) lifted lo hi k g e b = go w e
      where
        go : (v : Bool) → v || begins k hi ≡ true → v || begins k (lifted ++ s) ≡ true
        go true q = refl
        go false q =
            begins-trans k (shared k hi) (lifted ++ s) (shared-most k k hi (begins-refl k) q)
            (between-begins k hi (lifted ++ s) (before-asym k (lifted ++ s) b) (under-high lo hi (lifted ++ s) (parts s t f lifted lo hi g.sounds).owned))

    right-fits : {h : ℕ} (f : Forest) (lo hi k : List ℕ) (at at' : ℕ) (l : Forest) (v : Bool) → before lo k ≡ true → length k ≤ pivot_limit → v || begins k hi ≡ true
        → branches_size f ≤ entries_limit → short_in f ≡ true → fits_in f ≡ true
        → before k hi ≡ true
        → Cuts h lo k hi l (edge_in fresh v f (shared lo hi) hi k at') (rest_in f (shared lo hi) hi k) (rows_in f (shared lo hi) hi)
        → fits_in (edge_in fresh v f (shared lo hi) hi k at') ≡ true
        → fits_in (packed v (fresh at) (fresh (suc at)) k hi (edge_in fresh v f (shared lo hi) hi k at') (rest_in f (shared lo hi) hi k)) ≡ true
    unfolding packed
    right-fits {h} f lo hi k at at' l true a n b room short fit z c e =
        let r : Forest = rest_in f (shared lo hi) hi k in
        let x : List ℕ = high_of [] hi r in
        let g : Forest = edge_in fresh true f (shared lo hi) hi k at' in
        let small : size_at (length (shared k x)) g ≤ 142 =
        omega (arith, short-size (length (shared k x)) g (edge-short true f (shared lo hi) hi k at' fit n), edge_count true f (shared lo hi) hi k at') in
        fits-joined (over (fresh at) k x g) (over (fresh (suc at)) x hi r)
        (over-fits (fresh at) k x g (enough (size_at (length (shared k x)) g) small) (edge-short true f (shared lo hi) hi k at' fit n) e)
        (rest-node (fresh (suc at)) lo c.rests (before-asym lo x (before-le lo k x a (run-le c.edges)))
        (λ d h. (omega (arith, rest-size d f (shared lo hi) hi k h), rest-short d f (shared lo hi) hi k h short)) (rest-fits f (shared lo hi) hi k fit))
    right-fits {h} f lo hi k at at' l false a n b room short fit z c e =
        let r : Forest = rest_in f (shared lo hi) hi k in
        let g : Forest = edge_in fresh false f (shared lo hi) hi k at' in
        let d : ℕ = length (shared k hi) in
        let y : length k ≤ d = begins-length k (shared k hi) (shared-most k k hi (begins-refl k) b) in
        let u : length (shared lo hi) ≤ d = lifts-high lo k hi (before-asym lo k a) z in
        over-fits (fresh at) k hi (joined g r)
        (omega (arith, size-joined d g r, narrow_both d f (shared lo hi) hi k at' u y))
        (short-joined d g r (narrow_short d f (shared lo hi) hi k at' (omega arith)) (rest-short d f (shared lo hi) hi k u short))
        (fits-joined g r e (rest-fits f (shared lo hi) hi k fit))

    inner-fits : {h : ℕ} (i : ℕ) (f : Forest) (lo hi k : List ℕ) (at at' : ℕ) → before lo k ≡ true → before k hi ≡ true → length k ≤ pivot_limit → w || begins k hi ≡ true
        → fits (interior i f []) ≡ true
        → Cuts h lo k hi (left_in fresh f (shared lo hi) hi k (suc at)) (edge_in fresh w f (shared lo hi) hi k (after w at')) (rest_in f (shared lo hi) hi k)
        (rows_in f (shared lo hi) hi)
        → (fits_in (left_in fresh f (shared lo hi) hi k (suc at)) ≡ true) × (fits_in (edge_in fresh w f (shared lo hi) hi k (after w at')) ≡ true)
        → (fits (left_of fresh (interior i f []) lo hi k at) ≡ true) × (fits_in (right_of fresh w (interior i f []) lo hi k at') ≡ true)
    unfolding left_of right_of fits
    inner-fits i f lo hi k at at' a b n v e c ih =
        let room : branches_size f ≤ entries_limit = leb-true (branches_size f) entries_limit (and_left _ _ (and_left _ _ e)) in
        let short : short_in f ≡ true = and_right (leb (branches_size f) entries_limit) _ (and_left _ _ e) in
        let fit : fits_in f ≡ true = and_right (leb (branches_size f) entries_limit && short_in f) _ e in
        let l : Forest = left_in fresh f (shared lo hi) hi k (suc at) in
        let d : length (shared lo hi) ≤ length (shared lo k) = lifts-low lo k hi a b in (
          node-fits (fresh at) lo k l (omega (arith, left-size (length (shared lo k)) f (shared lo hi) hi k (suc at) d))
              (left_short (length (shared lo k)) f (shared lo hi) hi k (suc at) d short) ih.0,
          right-fits f lo hi k at' (after w at') l w a n v room short fit b c ih.1,
        )

    leaf-parts : (i : ℕ) (rs : List Row) (lo hi k : List ℕ) (at at' : ℕ) → before lo k ≡ true → before k hi ≡ true → fits (leaf i rs) ≡ true
        → (fits (left_of fresh (leaf i rs) lo hi k at) ≡ true) × (fits_in (right_of fresh w (leaf i rs) lo hi k at') ≡ true)
    unfolding left_of right_of fits_in
    leaf-parts i rs lo hi k at at' a b e = (
      leaf-fits i (fresh at) (shared lo hi) (shared lo k) (up_to k) rs (lifts-low lo k hi a b) e,
      both (leaf-fits i (fresh at') (shared lo hi) (shared k hi) (since k) rs (lifts-high lo k hi (before-asym lo k a) b) e) refl,
    )

    mutual
      unfolding sound_tree still levelled fits_in left_in edge_in

      pub cut_fits : (t : Tree) (h : ℕ) (lo hi k : List ℕ) (at at' : ℕ) → Good h t lo hi → before lo k ≡ true → before k hi ≡ true → length k ≤ pivot_limit
          → w || begins k hi ≡ true → fits t ≡ true
          → (fits (left_of fresh t lo hi k at) ≡ true) × (fits_in (right_of fresh w t lo hi k at') ≡ true)
      cut_fits (unread i) h lo hi k at at' g a b n v e = absurd (false≢true g.sound)
      cut_fits (leaf i rs) h lo hi k at at' g a b n v e = leaf-parts i rs lo hi k at at' a b e
      cut_fits (interior i f (m ∷ ms)) h lo hi k at at' g a b n v e = absurd (false≢true g.holds_no_message)
      cut_fits (interior i f []) zero lo hi k at at' g a b n v e = absurd (false≢true g.level)
      cut_fits (interior i f []) (suc h) lo hi k at at' g a b n v e =
          inner-fits i f lo hi k at at' a b n v e (inner-cuts fresh w i f h lo hi k (suc at) (after w at') g a b)
          (cut-fits-in f h (shared lo hi) lo hi k (suc at) (after w at') (inner-branches i f lo hi g) n v
          (and_right (leb (branches_size f) entries_limit && short_in f) _ e))

      pub cut-fits-in : (f : Forest) (h : ℕ) (lifted lo hi k : List ℕ) (at at' : ℕ) → Branches h f lifted lo hi → length k ≤ pivot_limit
          → w || begins k hi ≡ true → fits_in f ≡ true
          → (fits_in (left_in fresh f lifted hi k at) ≡ true) × (fits_in (edge_in fresh w f lifted hi k at') ≡ true)
      cut-fits-in end h lifted lo hi k at at' g n v e = (refl, refl)
      cut-fits-in (tree s t f) h lifted lo hi k at at' g n v e =
          let on = cut-fits-in f h lifted lo hi k at at' (branch-later s t f lifted lo hi g) n v (and_right (fits t) _ e) in
          cases (before k (high_of lifted hi f))
          (λ a. cases (before (lifted ++ s) k)
          (λ b. let here = cut_fits t h (lifted ++ s) (high_of lifted hi f) k at at' (branch-first s t f lifted lo hi g) b a n
          (narrow_high f lifted lo hi k (branch-later s t f lifted lo hi g) v a) (and_left (fits t) _ e) in
          rw (a, b) (both here.0 refl, here.1))
          (λ b. rw (a, b) (refl, refl)))
          (λ a. rw a (both (and_left (fits t) _ e) on.0, on.1))
