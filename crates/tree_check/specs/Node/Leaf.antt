-- A sound leaf, pair by pair.
use Rattle.std.specs.Prelude.{ℕ, ◌≡◌, refl, List, [], ◌∷◌, Bool, true, false, ◌&&◌}
use Rattle.image.specs.Prelude.{sym, ap, ap₂, ◌∙◌, and-true, and-false, Option, none, some, arith}
use Rattle.image.specs.Bytes.{before}
use Rattle.image.specs.Path.{owns, value_fits}
use Rattle.image.specs.Entry as defined
use Rattle.image.specs.Table.{Row, every_key, leads, rising}
use Rattle.image.specs.Image.{unread, leaf, pair_then, pairs_of, or_none, leaf_of}
use Rattle.image.specs.Sound.{values_fit}
use Rattle.path.specs.Shape as machine
use Rattle.laws.specs.Reading.SoundHere as inside

-- a key comes after the one before it
unfoldable pub follows : Option (List ℕ) → List ℕ → Bool
follows none k = true
follows (some p) k = before p k

-- a pair of a sound leaf
unfoldable pub row_here : machine.Shape → List ℕ → List ℕ → Option (List ℕ) → List ℕ → List ℕ → Bool
row_here sh lo hi prev k v = follows prev k && (machine.goes_on sh k && owns lo hi k && value_fits v)

unfoldable pub leaf_list : machine.Shape → List ℕ → List ℕ → Option (List ℕ) → List defined.Entry → Bool
leaf_list sh lo hi prev [] = true
leaf_list sh lo hi prev (defined.pair k v ∷ es) = row_here sh lo hi prev k v && leaf_list sh lo hi (some k) es
leaf_list sh lo hi prev (defined.child i k ∷ es) = false
leaf_list sh lo hi prev (defined.message m ∷ es) = false

unfoldable pub leaf_run : machine.Shape → List ℕ → List ℕ → Option (List ℕ) → Option (List defined.Entry) → Bool
leaf_run sh lo hi prev none = false
leaf_run sh lo hi prev (some es) = leaf_list sh lo hi prev es

-- The walk is the definition: by pairs instead of by rules.
swap : (a b c d : Bool) → (a && b) && (c && d) ≡ (a && c) && (b && d)
swap true true c d = refl
swap true false true d = refl
swap true false false d = refl
swap false b c d = refl

module _ (sh : machine.Shape) (lo hi : List ℕ) where
  abbrev rules : List Row → Bool
  rules rs = every_key (machine.goes_on sh) rs && every_key (owns lo hi) rs && rising rs && values_fit rs

  abbrev led : Option (List ℕ) → List Row → Bool
  led none rs = true
  led (some p) rs = leads p rs

  -- one row of the rules
  rules-cons : (r : Row) (rs : List Row) → rules (r ∷ rs) ≡ (machine.goes_on sh r.key && owns lo hi r.key && value_fits r.value) && (leads r.key rs && rules rs)
  unfolding every_key rising values_fit
  rules-cons r rs =
      let g = machine.goes_on sh r.key in
      let o = owns lo hi r.key in
      let v = value_fits r.value in
      let l = leads r.key rs in
      let G = every_key (machine.goes_on sh) rs in
      let O = every_key (owns lo hi) rs in
      ap (λ z. z && (l && rising rs) && (v && values_fit rs)) (swap g G o O)
      ∙ ap (λ z. z && (v && values_fit rs)) (swap (g && o) (G && O) l (rising rs))
      ∙ swap (g && o && l) (G && O && rising rs) v (values_fit rs)
      ∙ turn (g && o) l v (G && O && rising rs && values_fit rs)
    where
      turn : (a l v z : Bool) → a && l && v && z ≡ a && v && (l && z)
      turn true true true z = refl
      turn true true false z = refl
      turn true false true z = refl
      turn true false false z = refl
      turn false l v z = refl

  leaf-of : (i : ℕ) (rs : List Row) → inside.sound_here (leaf i rs) sh lo hi ≡ rules rs
  unfolding inside.sound_here
  leaf-of i rs = refl

  led-cons : (prev : Option (List ℕ)) (k v : List ℕ) (rs : List Row) → follows prev k ≡ led prev (record { key = k; value = v } ∷ rs)
  unfolding follows leads
  led-cons none k v rs = refl
  led-cons (some p) k v rs = refl

  led-nil : (prev : Option (List ℕ)) → true ≡ led prev []
  unfolding leads
  led-nil none = refl
  led-nil (some p) = refl

  rules-nil : rules [] ≡ true
  unfolding every_key rising values_fit
  rules-nil = refl

  regroup : (f a z w : Bool) → z ≡ w → f && a && z ≡ f && (a && w)
  regroup true a z w e = ap (λ y. a && y) e
  regroup false a z w e = refl

  list-rules : (prev : Option (List ℕ)) (es : List defined.Entry) (rs : List Row) → pairs_of es ≡ some rs → leaf_list sh lo hi prev es ≡ led prev rs && rules rs
  unfolding leaf_list row_here pairs_of
  list-rules prev [] rs h =
      let q : rs ≡ [] = cc in
      rw q (led-nil prev ∙ sym (and-true (led prev [])) ∙ ap (λ z. led prev [] && z) (sym rules-nil))
  list-rules prev (defined.pair k v ∷ es) rs h = go (pairs_of es) refl (λ ts e. list-rules (some k) es ts e)
    where
      go : (o : Option (List Row)) → pairs_of es ≡ o → ((ts : List Row) → pairs_of es ≡ some ts → leaf_list sh lo hi (some k) es ≡ led (some k) ts && rules ts)
          → leaf_list sh lo hi prev (defined.pair k v ∷ es) ≡ led prev rs && rules rs
      go none e ih = let q : none ≡ some rs = unfold pair_then in rw e at h in let z : ◌≡◌ {A = ℕ} 0 1 = cc in absurd (omega arith)
      go (some ts) e ih =
          let q : some (record { key = k; value = v } ∷ ts) ≡ some rs = unfold pair_then in rw e at h in
          let p : rs ≡ record { key = k; value = v } ∷ ts = cc in
          rw p (regroup (follows prev k) (machine.goes_on sh k && owns lo hi k && value_fits v) (leaf_list sh lo hi (some k) es) (leads k ts && rules ts) (ih ts e)
          ∙ ap₂ (λ a b. a && b) (led-cons prev k v ts) (sym (rules-cons (record { key = k; value = v }) ts)))
  list-rules prev (defined.child i k ∷ es) rs h = let q : none ≡ some rs = unfold pair_then in h in let z : ◌≡◌ {A = ℕ} 0 1 = cc in absurd (omega arith)
  list-rules prev (defined.message m ∷ es) rs h = let q : none ≡ some rs = unfold pair_then in h in let z : ◌≡◌ {A = ℕ} 0 1 = cc in absurd (omega arith)

  list-none : (prev : Option (List ℕ)) (es : List defined.Entry) → pairs_of es ≡ none → leaf_list sh lo hi prev es ≡ false
  unfolding leaf_list pairs_of
  list-none prev [] h = let z : ◌≡◌ {A = ℕ} 0 1 = cc in absurd (omega arith)
  list-none prev (defined.pair k v ∷ es) h = go (pairs_of es) refl (list-none (some k) es)
    where
      go : (o : Option (List Row)) → pairs_of es ≡ o → (pairs_of es ≡ none → leaf_list sh lo hi (some k) es ≡ false) → leaf_list sh lo hi prev (defined.pair k v ∷ es) ≡ false
      go none e ih = rw (ih e) (and-false (row_here sh lo hi prev k v))
      go (some ts) e ih = let q : some (record { key = k; value = v } ∷ ts) ≡ none = unfold pair_then in rw e at h in let z : ◌≡◌ {A = ℕ} 0 1 = cc in absurd (omega arith)
  list-none prev (defined.child i k ∷ es) h = refl
  list-none prev (defined.message m ∷ es) h = refl

  -- what check_leaf answers is whether the leaf of these entries is sound
  pub leaf-sound : (i : ℕ) (o : Option (List defined.Entry)) → leaf_run sh lo hi none o ≡ inside.sound_here (leaf_of i (or_none pairs_of o)) sh lo hi
  unfolding leaf_run leaf_of or_none
  leaf-sound i none = unread-not i
    where
      unread-not : (i : ℕ) → false ≡ inside.sound_here (unread i) sh lo hi
      unread-not i = unfold inside.sound_here in refl
  leaf-sound i (some es) = go (pairs_of es) refl
    where
      go : (o : Option (List Row)) → pairs_of es ≡ o → leaf_list sh lo hi none es ≡ inside.sound_here (leaf_of i (pairs_of es)) sh lo hi
      go none e = list-none none es e ∙ no-leaf i (pairs_of es) e
        where
          no-leaf : (i : ℕ) (o : Option (List Row)) → o ≡ none → false ≡ inside.sound_here (leaf_of i o) sh lo hi
          no-leaf i o e = unfold inside.sound_here leaf_of in rw e
      go (some rs) e = list-rules none es rs e ∙ sym (leaf-of i rs) ∙ a-leaf i (pairs_of es) rs e
        where
          a-leaf : (i : ℕ) (o : Option (List Row)) (rs : List Row) → o ≡ some rs → inside.sound_here (leaf i rs) sh lo hi ≡ inside.sound_here (leaf_of i o) sh lo hi
          a-leaf i o rs e = unfold leaf_of in rw e
