-- The steps of the walk: what it makes of no path, of one, and of two lists; and one path looked up.
-- Relies on: Held, and successor's laws on what is present.
use Rattle.std.specs.Prelude.{ℕ, ◌≡◌, refl, List, [], ◌∷◌, ◌++◌, Bool, true, false, ◌&&◌, not}
use Rattle.std.specs.Prelude as found
use Rattle.std.specs.Borrow.{Bor}
use Rattle.image.specs.Prelude.{sym, ap, ◌∙◌, and-true, none, some}
use Rattle.image.specs.Table as table
use Rattle.image.specs.Sound.{sound, value_in}
use Rattle.laws.specs.Frame.{or_right}
use Rattle.laws.specs.Reading.Seek.{every, every_append}
use Rattle.node.specs.Lent.{value_is}
use Rattle.node.specs.Fitted.{fitted, fitted-is, fitted-long}
use Rattle.successor.specs.Walk.{is_present}
use Rattle.successor.specs.Present.{too_long}
use Rattle.inclusion.specs.Held.{is_held, all_held}
use Rattle.inclusion.specs.declared.Inclusion.{Inclusion}

-- 1. One path.
is-found : (o : found.Option (Bor (List ℕ))) → found.is_some o ≡ table.is_some (value_is o)
unfolding table.is_some
is-found found.None = refl
is-found (found.Some v) = refl

module _ (s t k : List ℕ) where
  not_there : is_present s k ≡ false → true ≡ is_held s t k
  unfolding is_held
  not_there e = sym (or_right (is_present t k) (not (is_present s k)) (rw e))

  pub path-long : sound s ≡ true → none ≡ fitted k → true ≡ is_held s t k
  path-long e h = not_there (too_long s k e (fitted-long k h))

  -- what the lookup finds of the path y that was joined
  module _ (l y : List ℕ) (joined : some l ≡ fitted k) (held : y ≡ l) where
    present_is : (u : List ℕ) (o : found.Option (Bor (List ℕ))) (x : Bool) → value_is o ≡ value_in u y → found.is_some o ≡ x → is_present u k ≡ x
    unfolding is_present
    present_is u o x e h = ap (λ z. table.is_some (value_in u z)) (sym (held ∙ fitted-is l k joined)) ∙ ap table.is_some (sym e) ∙ sym (is-found o) ∙ h

    pub path-found : (o : found.Option (Bor (List ℕ))) → value_is o ≡ value_in t y → found.is_some o ≡ true → true ≡ is_held s t k
    unfolding is_held
    path-found o there h = rw (present_is t o true there h)

    pub path-missing : (o p : found.Option (Bor (List ℕ))) → value_is o ≡ value_in t y → value_is p ≡ value_in s y → found.is_some o ≡ false → found.is_some p ≡ true → false ≡ is_held s t k
    unfolding is_held
    path-missing o p there here h q = rw (present_is t o false there h, present_is s p true here q)

    pub path-removed : (p : found.Option (Bor (List ℕ))) → value_is p ≡ value_in s y → found.is_some p ≡ false → true ≡ is_held s t k
    path-removed p here q = not_there (present_is s p false here q)

-- 2. What the walk makes of the paths that it comes to.
pub record Inspected (v : Inclusion) (ks : List (List ℕ)) (w : Inclusion) : Type 0 where
  pub store : w.store ≡ v.store
  pub other : w.other ≡ v.other
  pub held : w.held ≡ v.held && all_held v.store.now v.other.now ks

pub inspected-nothing : (v : Inclusion) → Inspected v [] v
unfolding all_held every
inspected-nothing v = record { store = refl; other = refl; held = sym (and-true v.held) }

pub inspected-both : (v w x : Inclusion) (a b : List (List ℕ)) → Inspected v a w → Inspected w b x → Inspected v (a ++ b) x
unfolding all_held
inspected-both v w x a b g h = record {
  store = h.store ∙ g.store;
  other = h.other ∙ g.other;
  held =
      rw (g.store, g.other, g.held) at h.held
      ∙ both v.held (every (is_held v.store.now v.other.now) a) (every (is_held v.store.now v.other.now) b)
      ∙ ap (λ z. v.held && z) (sym (every_append (is_held v.store.now v.other.now) a b));
}
  where
    both : (p q r : Bool) → (p && q) && r ≡ p && (q && r)
    both true q r = refl
    both false q r = refl

-- a path that was looked up while all were held, and paths after one that is not
pub inspected-path : (v w : Inclusion) (k : List ℕ) → v.held ≡ true → w.store ≡ v.store → w.other ≡ v.other → w.held ≡ is_held v.store.now v.other.now k → Inspected v (k ∷ []) w
unfolding all_held every
inspected-path v w k h a b e = record { store = a; other = b; held = e ∙ sym (rw h (and-true (is_held v.store.now v.other.now k))) }

pub inspected-missing : (v : Inclusion) (ks : List (List ℕ)) → v.held ≡ false → Inspected v ks v
inspected-missing v ks h = record { store = refl; other = refl; held = h ∙ rw h }
