-- Slices do not depend on what both pivots and the cut begin with: code may slice by what is left after the lifted bytes.
use Rattle.std.specs.Prelude.{ℕ, suc, ◌≡◌, refl, List, [], ◌∷◌, ◌++◌, Bool, true, false, not, cond, length, drop}
use Rattle.image.specs.Prelude.{ap, ap₂, ◌∙◌, append_assoc}
use Rattle.image.specs.Bytes.{before, shared}
use Rattle.image.specs.Table.{Row, under_prefix}
use Rattle.image.specs.Image.{Tree, unread, leaf, interior, Forest, end, tree}
use Rattle.image.specs.Meaning.{high_of}
use Rattle.octets.specs.Order.{before-append, shared-append}
use Rattle.laws.specs.Shift.{under-under, high-shift, drop-shift}
use Rattle.laws.specs.Filter.{keep, up_to, since, lower_rows}
use Rattle.laws.specs.Pieces.{joined, raise, lower, node, over}
use Rattle.slice.specs.Slicing.Slice.{rest_in, packed, after, left_of, left_in, right_of, edge_in}

module _ (prefix : List ℕ) where
  keep-shift : (a b : List ℕ → Bool) (t : List Row) → ((q : List ℕ) → a (prefix ++ q) ≡ b q) → keep a (under_prefix prefix t) ≡ under_prefix prefix (keep b t)
  unfolding keep under_prefix
  keep-shift a b [] h = refl
  keep-shift a b (r ∷ t) h = rw (h r.key) (go (b r.key) (keep-shift a b t h))
    where
      go : (x : Bool) → keep a (under_prefix prefix t) ≡ under_prefix prefix (keep b t)
          → cond x (record { key = prefix ++ r.key; value = r.value } ∷ keep a (under_prefix prefix t)) (keep a (under_prefix prefix t)) ≡ under_prefix prefix (cond x (r ∷ keep b t) (keep b t))
      go true ih = ap (λ l. record { key = prefix ++ r.key; value = r.value } ∷ l) ih
      go false ih = ih

  lower-under : (l : List ℕ) (t : List Row) → lower_rows (prefix ++ l) (under_prefix prefix t) ≡ lower_rows l t
  unfolding lower_rows under_prefix
  lower-under l [] = refl
  lower-under l (r ∷ t) = rw (drop-shift prefix l r.key) (ap (λ u. record { key = drop (length l) r.key; value = r.value } ∷ u) (lower-under l t))

  leaf-shift : (l l' : List ℕ) (a b : List ℕ → Bool) (t : List Row) → ((q : List ℕ) → a (prefix ++ q) ≡ b q)
      → lower_rows (prefix ++ l') (keep a (under_prefix (prefix ++ l) t)) ≡ lower_rows l' (keep b (under_prefix l t))
  leaf-shift l l' a b t h =
      ap (λ x. lower_rows (prefix ++ l') (keep a x)) (under-under prefix l t)
      ∙ ap (lower_rows (prefix ++ l')) (keep-shift a b (under_prefix l t) h)
      ∙ lower-under l' (keep b (under_prefix l t))

  lower-raise : (l : List ℕ) (f : Forest) → lower (prefix ++ l) (raise prefix f) ≡ lower l f
  unfolding lower raise
  lower-raise l end = refl
  lower-raise l (tree s t f) = rw (drop-shift prefix l s, lower-raise l f)

  raise-raise : (l : List ℕ) (f : Forest) → raise (prefix ++ l) f ≡ raise prefix (raise l f)
  unfolding raise
  raise-raise l end = refl
  raise-raise l (tree s t f) = rw (append_assoc prefix l s, raise-raise l f)

  pub joined-raise : (f g : Forest) → joined (raise prefix f) (raise prefix g) ≡ raise prefix (joined f g)
  unfolding raise joined
  joined-raise end g = refl
  joined-raise (tree s t f) g = rw (joined-raise f g)

  pub node-shift : (n : ℕ) (lo hi : List ℕ) (f : Forest) → node n (prefix ++ lo) (prefix ++ hi) (raise prefix f) ≡ node n lo hi f
  unfolding node
  node-shift n lo hi f = rw (shared-append prefix lo hi, lower-raise (shared lo hi) f)

  over-shift : (n : ℕ) (lo hi : List ℕ) (f : Forest) → over n (prefix ++ lo) (prefix ++ hi) (raise prefix f) ≡ raise prefix (over n lo hi f)
  unfolding over raise
  over-shift n lo hi end = refl
  over-shift n lo hi (tree s t f) = ap (λ x. tree (prefix ++ lo) x end) (node-shift n lo hi (tree s t f))

  pub high-raised : (hi : List ℕ) (f : Forest) → high_of [] (prefix ++ hi) (raise prefix f) ≡ prefix ++ high_of [] hi f
  unfolding high_of raise
  high-raised hi end = refl
  high-raised hi (tree s t f) = refl

  packed-shift : (w : Bool) (n m : ℕ) (k hi : List ℕ) (e r : Forest) → packed w n m (prefix ++ k) (prefix ++ hi) (raise prefix e) (raise prefix r) ≡ raise prefix (packed w n m k hi e r)
  unfolding packed
  packed-shift true n m k hi e r =
      rw (high-raised hi r)
      (ap₂ joined (over-shift n k (high_of [] hi r) e) (over-shift m (high_of [] hi r) hi r) ∙ joined-raise (over n k (high_of [] hi r) e) (over m (high_of [] hi r) hi r))
  packed-shift false n m k hi e r = ap (over n (prefix ++ k) (prefix ++ hi)) (joined-raise e r) ∙ over-shift n k hi (joined e r)

  -- a choice made by the same tests
  pub test-high : (l hi k : List ℕ) (f : Forest) → before (prefix ++ k) (high_of (prefix ++ l) (prefix ++ hi) f) ≡ before k (high_of l hi f)
  test-high l hi k f = rw (high-shift prefix l hi f) (before-append prefix k (high_of l hi f))

  pub test_low : (l k s : List ℕ) → before ((prefix ++ l) ++ s) (prefix ++ k) ≡ before (l ++ s) k
  test_low l k s = rw (append_assoc prefix l s) (before-append prefix (l ++ s) k)

  raise-cond : (x : Bool) (f g f' g' : Forest) → f ≡ raise prefix f' → g ≡ raise prefix g' → cond x f g ≡ raise prefix (cond x f' g')
  raise-cond true f g f' g' a b = a
  raise-cond false f g f' g' a b = b

  raise-tree : (l s : List ℕ) (t t' : Tree) (f f' : Forest) → t ≡ t' → f ≡ raise prefix f' → tree ((prefix ++ l) ++ s) t f ≡ raise prefix (tree (l ++ s) t' f')
  unfolding raise
  raise-tree l s t t' f f' a b = rw (append_assoc prefix l s) (ap₂ (λ x y. tree (prefix ++ (l ++ s)) x y) a b)

  raise-end : end ≡ raise prefix end
  unfolding raise
  raise-end = refl

  pub rest-shift : (f : Forest) (l hi k : List ℕ) → rest_in f (prefix ++ l) (prefix ++ hi) (prefix ++ k) ≡ raise prefix (rest_in f l hi k)
  unfolding rest_in
  rest-shift end l hi k = raise-end
  rest-shift (tree s t f) l hi k =
      rw (test-high l hi k f, test_low l k s)
      (raise-cond (before k (high_of l hi f)) _ _ _ _
      (raise-cond (before (l ++ s) k) _ _ _ _ (raise-raise l f) (raise-tree l s t t (raise (prefix ++ l) f) (raise l f) refl (raise-raise l f)))
      (rest-shift f l hi k))

  module _ (fresh : ℕ → ℕ) where
    mutual
      unfolding left_of left_in

      pub left-shift : (t : Tree) (lo hi k : List ℕ) (at : ℕ) → left_of fresh t (prefix ++ lo) (prefix ++ hi) (prefix ++ k) at ≡ left_of fresh t lo hi k at
      left-shift (unread i) lo hi k at = refl
      left-shift (leaf i rs) lo hi k at =
          ap (leaf (fresh at))
          (rw (shared-append prefix lo hi, shared-append prefix lo k)
          (leaf-shift (shared lo hi) (shared lo k) (up_to (prefix ++ k)) (up_to k) rs (λ q. before-append prefix q k)))
      left-shift (interior i f ms) lo hi k at =
          rw (shared-append prefix lo hi)
          (ap (node (fresh at) (prefix ++ lo) (prefix ++ k)) (left-shift-in f (shared lo hi) hi k (suc at)) ∙ node-shift (fresh at) lo k (left_in fresh f (shared lo hi) hi k (suc at)))

      pub left-shift-in : (f : Forest) (l hi k : List ℕ) (at : ℕ) → left_in fresh f (prefix ++ l) (prefix ++ hi) (prefix ++ k) at ≡ raise prefix (left_in fresh f l hi k at)
      left-shift-in end l hi k at = raise-end
      left-shift-in (tree s t f) l hi k at =
          rw (test-high l hi k f, test_low l k s)
          (raise-cond (before k (high_of l hi f)) _ _ _ _
          (raise-cond (before (l ++ s) k) _ _ _ _
          (raise-tree l s _ _ end end (ap₂ (λ x y. left_of fresh t x y (prefix ++ k) at) (append_assoc prefix l s) (high-shift prefix l hi f) ∙ left-shift t (l ++ s) (high_of l hi f) k at)
          raise-end) raise-end)
          (raise-tree l s t t _ _ refl (left-shift-in f l hi k at)))

    right-leaf : (n : ℕ) (rs : List Row) (lo hi k : List ℕ)
        → tree (prefix ++ k) (leaf n (lower_rows (shared (prefix ++ k) (prefix ++ hi)) (keep (since (prefix ++ k)) (under_prefix (shared (prefix ++ lo) (prefix ++ hi)) rs)))) end
        ≡ raise prefix (tree k (leaf n (lower_rows (shared k hi) (keep (since k) (under_prefix (shared lo hi) rs)))) end)
    unfolding raise
    right-leaf n rs lo hi k =
        ap (λ x. tree (prefix ++ k) (leaf n x) end)
        (rw (shared-append prefix lo hi, shared-append prefix k hi)
        (leaf-shift (shared lo hi) (shared k hi) (since (prefix ++ k)) (since k) rs (λ q. ap not (before-append prefix q k))))

    mutual
      unfolding right_of edge_in

      pub right-shift : (w : Bool) (t : Tree) (lo hi k : List ℕ) (at : ℕ) → right_of fresh w t (prefix ++ lo) (prefix ++ hi) (prefix ++ k) at ≡ raise prefix (right_of fresh w t lo hi k at)
      right-shift w (unread i) lo hi k at = raise-end
      right-shift w (leaf i rs) lo hi k at = right-leaf (fresh at) rs lo hi k
      right-shift w (interior i f ms) lo hi k at =
          rw (shared-append prefix lo hi)
          (ap₂ (packed w (fresh at) (fresh (suc at)) (prefix ++ k) (prefix ++ hi)) (edge-shift w f (shared lo hi) hi k (after w at)) (rest-shift f (shared lo hi) hi k)
          ∙ packed-shift w (fresh at) (fresh (suc at)) k hi (edge_in fresh w f (shared lo hi) hi k (after w at)) (rest_in f (shared lo hi) hi k))

      pub edge-shift : (w : Bool) (f : Forest) (l hi k : List ℕ) (at : ℕ) → edge_in fresh w f (prefix ++ l) (prefix ++ hi) (prefix ++ k) at ≡ raise prefix (edge_in fresh w f l hi k at)
      edge-shift w end l hi k at = raise-end
      edge-shift w (tree s t f) l hi k at =
          rw (test-high l hi k f, test_low l k s)
          (raise-cond (before k (high_of l hi f)) _ _ _ _
          (raise-cond (before (l ++ s) k) _ _ _ _
          (ap₂ (λ x y. right_of fresh w t x y (prefix ++ k) at) (append_assoc prefix l s) (high-shift prefix l hi f) ∙ right-shift w t (l ++ s) (high_of l hi f) k at) raise-end)
          (edge-shift w f l hi k at))
