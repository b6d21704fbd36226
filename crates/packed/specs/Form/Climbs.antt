-- Lists whose low pivots (or keys) strictly rise, up to a high one.
use Rattle.std.specs.Prelude.{ℕ, ◌≡◌, refl, List, [], ◌∷◌, ◌++◌, true, false, length, drop}
use Rattle.image.specs.Prelude.{subst}
use Rattle.image.specs.Bytes.{before, shared}
use Rattle.image.specs.Path.{owns}
use Rattle.octets.specs.Order.{before-trans, before-asym, le-before}
use Rattle.laws.specs.LookupTable.{does-own, split}
use Rattle.packed.specs.Form.Chunk.{All, all_map, Group, members, flat}
use Rattle.packed.specs.Form.Packed.{first}

module _ {A : Type 0} (low : A → List ℕ) where
  abbrev pub Climbs : List ℕ → List A → Type 0
  Climbs hi [] = Unit {0}
  Climbs hi (x ∷ xs) = (before (low x) (first low hi xs) ≡ true) × Climbs hi xs

  pub first-append : (hi : List ℕ) (xs ys : List A) → first low hi (xs ++ ys) ≡ first low (first low hi ys) xs
  unfolding first
  first-append hi [] ys = refl
  first-append hi (x ∷ xs) ys = refl

  pub climbs-left : (hi : List ℕ) (xs ys : List A) → Climbs hi (xs ++ ys) → Climbs (first low hi ys) xs
  climbs-left hi [] ys h = tt
  climbs-left hi (x ∷ xs) ys h =
      (subst (λ z. before (low x) z ≡ true) (first-append hi xs ys) h.0, climbs-left hi xs ys h.1)

  pub climbs-right : (hi : List ℕ) (xs ys : List A) → Climbs hi (xs ++ ys) → Climbs hi ys
  climbs-right hi [] ys h = h
  climbs-right hi (x ∷ xs) ys h = climbs-right hi xs ys h.1

  -- the first is under the high pivot, and so is each
  pub climbs-under : (hi : List ℕ) (x : A) (xs : List A) → Climbs hi (x ∷ xs) → before (low x) hi ≡ true
  unfolding first
  climbs-under hi x [] h = h.0
  climbs-under hi x (y ∷ ys) h = before-trans (low x) (low y) hi h.0 (climbs-under hi y ys h.1)

  -- each stands from lo up to hi
  abbrev pub Between : List ℕ → List ℕ → A → Type 0
  Between lo hi x = owns lo hi (low x) ≡ true

  pub climbs-between : (lo hi : List ℕ) (xs : List A) → Climbs hi xs → before (first low hi xs) lo ≡ false → All (Between lo hi) xs
  unfolding first
  climbs-between lo hi [] h b = tt
  climbs-between lo hi (x ∷ xs) h b = (
    does-own lo hi (low x) b (climbs-under hi x xs h),
    climbs-between lo hi xs h.1 (before-asym lo (first low hi xs) (le-before lo (low x) (first low hi xs) b h.0)),
  )

  -- so each is what the two pivots share, and a rest
  abbrev pub Splits : List ℕ → A → Type 0
  Splits l x = l ++ drop (length l) (low x) ≡ low x

  pub between-splits : (lo hi : List ℕ) (xs : List A) → All (Between lo hi) xs → All (Splits (shared lo hi)) xs
  between-splits lo hi xs h = all_map (Between lo hi) (Splits (shared lo hi)) (λ x o. split lo hi (low x) o) xs h

  pub climbs-group : (hi : List ℕ) (g : Group A) (gs : List (Group A)) → Climbs hi (flat (g ∷ gs)) → Climbs (first low hi (flat gs)) (members g)
  unfolding flat
  climbs-group hi g gs h = climbs-left hi (members g) (flat gs) h

  pub climbs-later : (hi : List ℕ) (g : Group A) (gs : List (Group A)) → Climbs hi (flat (g ∷ gs)) → Climbs hi (flat gs)
  unfolding flat
  climbs-later hi g gs h = climbs-right hi (members g) (flat gs) h
