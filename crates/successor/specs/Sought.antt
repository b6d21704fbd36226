-- What the walk of next makes of the paths that it comes to: the best is what the walk over them finds, and nothing else changes.
-- Relies on: the walk of laws/Reading (Seek, Far), Walk, and that present paths are short (Present).
use Rattle.std.specs.Prelude.{ℕ, ◌+◌, ◌≤◌, ◌≡◌, refl, List, [], ◌∷◌, ◌++◌, Bool, true, false, ◌&&◌, not, length}
use Rattle.image.specs.Prelude.{sym, ap, ◌∙◌, Option, none, some, arith, length-append, not-true, not-false}
use Rattle.image.specs.Bytes.{before, begins}
use Rattle.image.specs.Table.{is_some}
use Rattle.image.specs.Sound.{sound, value_in}
use Rattle.octets.specs.Order.{and_left, and-false}
use Rattle.octets.specs.Beginnings.{begins-length}
use Rattle.path.specs.Shape.{Shape}
use Rattle.path.specs.Fed.{shape_is}
use Rattle.laws.specs.Reading.Far.{far_from, far-fair}
use Rattle.laws.specs.Reading.Seek.{better, wanted, try, walk, walk-append, walk_none, every, every-impl, holds}
use Rattle.node.specs.Fitted.{buffer_is, fitted, fitted-is, fitted-long}
use Rattle.successor.specs.Walk.{is_present, unfit, is_sought, try_in, walk_in}
use Rattle.successor.specs.Present.{too_long}
use Rattle.successor.specs.declared.seek.Seek.{Seek}

pub record Sought (v : Seek) (ks : List (List ℕ)) (w : Seek) : Type 0 where
  pub store : w.store ≡ v.store
  pub below : w.below ≡ v.below
  pub after : w.after ≡ v.after
  pub shape : w.shape ≡ v.shape
  pub best : buffer_is w.best ≡ walk_in v.store.now (shape_is v.shape) v.below.now v.after.now (buffer_is v.best) ks

pub sought-nothing : (v : Seek) → Sought v [] v
unfolding walk_in walk
sought-nothing v = record { store = refl; below = refl; after = refl; shape = refl; best = refl }

pub sought-both : (v w x : Seek) (a b : List (List ℕ)) → Sought v a w → Sought w b x → Sought v (a ++ b) x
unfolding walk_in
sought-both v w x a b g h = record {
  store = h.store ∙ g.store;
  below = h.below ∙ g.below;
  after = h.after ∙ g.after;
  shape = h.shape ∙ g.shape;
  best =
      rw (g.store, g.below, g.after, g.shape, g.best) at h.best
      ∙ sym (walk-append (is_sought v.store.now (shape_is v.shape) v.below.now) v.below.now v.after.now (buffer_is v.best) a b);
}

-- 1. One path.
-- it begins with `below`, if it is wanted
pub wanted-long : (below after a b : List ℕ) (best : Option (List ℕ)) (w : Bool) → w ≡ wanted below after best (a ++ b) → not w ≡ false → length below ≤ length a + length b
unfolding wanted
wanted-long below after a b best w e h =
    let f : begins below (a ++ b) && before after (a ++ b) && better best (a ++ b) ≡ true = sym e ∙ not-false w h in
    let l = begins-length below (a ++ b) (and_left (begins below (a ++ b)) (before after (a ++ b)) (and_left _ _ f)) in
    let n = length-append a b in
    omega arith

module _ (s : List ℕ) (sh : Shape) (below after k : List ℕ) (best : Option (List ℕ)) where
  not_there : is_present s k ≡ false → best ≡ try_in s sh below after best k
  unfolding try_in try is_sought
  not_there h = rw (h, and-false (unfit sh below k), and-false (wanted below after best k))

  module _ (w : Bool) (ew : w ≡ wanted below after best k) where
    pub try-unwanted : not w ≡ true → best ≡ try_in s sh below after best k
    unfolding try_in try
    try-unwanted h = rw (sym ew ∙ not-true w h)

    module _ (yes : not w ≡ false) (u : Bool) (eu : u ≡ unfit sh below k) where
      pub try-fit : not u ≡ true → best ≡ try_in s sh below after best k
      unfolding try_in try is_sought
      try-fit h = rw (sym eu ∙ not-true u h, and-false (wanted below after best k))

      module _ (apart : not u ≡ false) where
        pub try-long : sound s ≡ true → none ≡ fitted k → best ≡ try_in s sh below after best k
        try-long e h = not_there (too_long s k e (fitted-long k h))

        -- what the lookup finds of the path y that was joined
        module _ (l y : List ℕ) (joined : some l ≡ fitted k) (held : y ≡ l) where
          same-path : y ≡ k
          same-path = held ∙ fitted-is l k joined

          pub try-absent : none ≡ value_in s y → best ≡ try_in s sh below after best k
          unfolding is_present is_some
          try-absent h = not_there (rw (sym same-path, sym h))

          pub try-found : (v : List ℕ) → some v ≡ value_in s y → some l ≡ try_in s sh below after best k
          unfolding try_in try is_sought is_present is_some
          try-found v h =
              ap (λ x. some x) (fitted-is l k joined)
              ∙ rw (sym ew ∙ not-false w yes, sym eu ∙ not-false u apart, sym same-path, sym h)

-- a path that was visited
pub sought-path : (v w : Seek) (k : List ℕ) → w.store ≡ v.store → w.below ≡ v.below → w.after ≡ v.after → w.shape ≡ v.shape
    → buffer_is w.best ≡ try_in v.store.now (shape_is v.shape) v.below.now v.after.now (buffer_is v.best) k → Sought v (k ∷ []) w
unfolding walk_in try_in walk
sought-path v w k a b c d e = record { store = a; below = b; after = c; shape = d; best = e }

-- paths that are too far
pub sought-none : (v : Seek) (lo hi : List ℕ) (ks : List (List ℕ)) (r : Bool) → r ≡ far_from v.below.now v.after.now lo hi (buffer_is v.best) → r ≡ true
    → every (holds lo hi) ks ≡ true → Sought v ks v
unfolding walk_in
sought-none v lo hi ks r e h f = record {
  store = refl;
  below = refl;
  after = refl;
  shape = refl;
  best =
      sym (walk_none (is_sought v.store.now (shape_is v.shape) v.below.now) v.below.now v.after.now (buffer_is v.best) ks
      (every-impl (holds lo hi) (λ k. not (wanted v.below.now v.after.now (buffer_is v.best) k)) (λ k q. far-fair v.below.now v.after.now lo hi (buffer_is v.best) (sym e ∙ h) k q) ks f));
}
