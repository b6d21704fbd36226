-- A leaf whose keys rise is sound if its first key is not below the low pivot and its last key below the high one: the walk that asks no more.
-- Relies on Leaf, whose walk asks of every key whether the leaf owns it, and on the order of strings.
use Rattle.std.specs.Prelude.{ℕ, ◌≡◌, refl, List, [], ◌∷◌, Bool, true, false, ◌&&◌, not, length}
use Rattle.std.specs.Borrow.{Bor}
use Rattle.image.specs.Prelude.{sym, ap, ◌∙◌, and-true, Option, none, some, arith}
use Rattle.image.specs.Bytes.{before}
use Rattle.image.specs.Path.{owns, value_fits}
use Rattle.image.specs.Entry as defined
use Rattle.octets.specs.Order.{not_so, before-trans, refuted, and-false}
use Rattle.path.specs.Shape as machine
use Rattle.node.specs.Lent.{entry_is, Unread, Leads}
use Rattle.node.specs.declared.entries.Entry.{Entry}
use Rattle.tree_check.specs.Node.Leaf.{follows, row_here, leaf_list, leaf_run}

unfoldable pub after : List ℕ → Option (List ℕ) → List ℕ → Bool
after lo none k = not (before k lo)
after lo (some p) k = before p k

unfoldable pub row_next : machine.Shape → List ℕ → Option (List ℕ) → List ℕ → List ℕ → Bool
row_next sh lo prev k v = after lo prev k && (machine.goes_on sh k && value_fits v)

unfoldable pub closes : List ℕ → Option (List ℕ) → Bool
closes hi none = true
closes hi (some p) = before p hi

unfoldable pub walk_list : machine.Shape → List ℕ → List ℕ → Option (List ℕ) → List defined.Entry → Bool
walk_list sh lo hi prev [] = closes hi prev
walk_list sh lo hi prev (defined.pair k v ∷ es) = row_next sh lo prev k v && walk_list sh lo hi (some k) es
walk_list sh lo hi prev (defined.child i k ∷ es) = false
walk_list sh lo hi prev (defined.message m ∷ es) = false

unfoldable pub walk_run : machine.Shape → List ℕ → List ℕ → Option (List ℕ) → Option (List defined.Entry) → Bool
walk_run sh lo hi prev none = false
walk_run sh lo hi prev (some es) = walk_list sh lo hi prev es

-- THE TWO WALKS ARE ONE
module _ (g v l : Bool) where
  both_yes : (g && v) && (l && true) ≡ (g && (true && true) && v) && l
  both_yes = go g v l
    where
      go : (g v l : Bool) → (g && v) && (l && true) ≡ (g && (true && true) && v) && l
      go true true true = refl
      go true true false = refl
      go true false l = refl
      go false v l = refl

  both-no : (w : Bool) → (g && v) && (l && false) ≡ (g && (w && false) && v) && l
  both-no w = go g v l w
    where
      go : (g v l w : Bool) → (g && v) && (l && false) ≡ (g && (w && false) && v) && l
      go true true true true = refl
      go true true true false = refl
      go true true false true = refl
      go true true false false = refl
      go true false l true = refl
      go true false l false = refl
      go false v l w = refl

  -- the key is below the low pivot
  too-low : (w : Bool) → false ≡ (g && (false && w) && v) && l
  too-low w = go g v l
    where
      go : (g v l : Bool) → false ≡ (g && false && v) && l
      go true v l = refl
      go false v l = refl

module _ (sh : machine.Shape) (lo hi : List ℕ) where
  -- one row more, of which the low pivot is already known to be passed
  row-owned : (k v : List ℕ) (W L : Bool) → before k lo ≡ false → W ≡ L && before k hi
      → (machine.goes_on sh k && value_fits v) && W ≡ (machine.goes_on sh k && owns lo hi k && value_fits v) && L
  unfolding owns
  row-owned k v W L n e = go (before k hi) refl
    where
      go : (x : Bool) → before k hi ≡ x → (machine.goes_on sh k && value_fits v) && W ≡ (machine.goes_on sh k && (not (before k lo) && before k hi) && value_fits v) && L
      go true f = rw (e, n, f) (both_yes (machine.goes_on sh k) (value_fits v) L)
      go false f = rw (e, f) (both-no (machine.goes_on sh k) (value_fits v) L (not (before k lo)))

  past-low : (p k : List ℕ) → before p lo ≡ false → before p k ≡ true → before k lo ≡ false
  past-low p k n b = refuted (λ f. not_so (before-trans p k lo b f) n)

  -- where the last key is below the high pivot, so is every key before it
  list-after : (p : List ℕ) (es : List defined.Entry) → before p lo ≡ false → walk_list sh lo hi (some p) es ≡ leaf_list sh lo hi (some p) es && before p hi
  unfolding walk_list leaf_list
  list-after p [] n = unfold closes in refl
  list-after p (defined.pair k v ∷ es) n = go (before p k) refl (list-after k es)
    where
      go : (x : Bool) → before p k ≡ x → (before k lo ≡ false → walk_list sh lo hi (some k) es ≡ leaf_list sh lo hi (some k) es && before k hi)
          → row_next sh lo (some p) k v && walk_list sh lo hi (some k) es ≡ row_here sh lo hi (some p) k v && leaf_list sh lo hi (some k) es && before p hi
      go false b ih = unfold row_next after row_here follows in rw b
      go true b ih =
          let m : before k lo ≡ false = past-low p k n b in
          let a : (machine.goes_on sh k && value_fits v) && walk_list sh lo hi (some k) es ≡ (machine.goes_on sh k && owns lo hi k && value_fits v) && leaf_list sh lo hi (some k) es
          = row-owned k v (walk_list sh lo hi (some k) es) (leaf_list sh lo hi (some k) es) m (ih m) in
          let c : (machine.goes_on sh k && owns lo hi k && value_fits v) && leaf_list sh lo hi (some k) es
          ≡ (machine.goes_on sh k && owns lo hi k && value_fits v) && leaf_list sh lo hi (some k) es && before p hi
          = below-high (machine.goes_on sh k) (value_fits v) (leaf_list sh lo hi (some k) es) in
          front b (a ∙ c)
        where
          below-high : (g w l : Bool) → (g && owns lo hi k && w) && l ≡ (g && owns lo hi k && w) && l && before p hi
          below-high g w l = by (before k hi) refl g w l
            where
              by : (x : Bool) → before k hi ≡ x → (g w l : Bool) → (g && owns lo hi k && w) && l ≡ (g && owns lo hi k && w) && l && before p hi
              by true f g w l = rw (before-trans p k hi b f) (sym (and-true ((g && owns lo hi k && w) && l)))
              by false f g w l = unfold owns in rw f (none_left g (not (before k lo)) w l (before p hi))
                where
                  none_left : (g a w l z : Bool) → (g && (a && false) && w) && l ≡ (g && (a && false) && w) && l && z
                  none_left true true w l z = refl
                  none_left true false w l z = refl
                  none_left false a w l z = refl

          front : before p k ≡ true → (machine.goes_on sh k && value_fits v) && walk_list sh lo hi (some k) es
              ≡ (machine.goes_on sh k && owns lo hi k && value_fits v) && leaf_list sh lo hi (some k) es && before p hi
              → row_next sh lo (some p) k v && walk_list sh lo hi (some k) es ≡ row_here sh lo hi (some p) k v && leaf_list sh lo hi (some k) es && before p hi
          front b e = unfold row_next after row_here follows in rw b e
  list-after p (defined.child i k ∷ es) n = refl
  list-after p (defined.message m ∷ es) n = refl

  list_all : (es : List defined.Entry) → walk_list sh lo hi none es ≡ leaf_list sh lo hi none es
  unfolding walk_list leaf_list
  list_all [] = unfold closes in refl
  list_all (defined.pair k v ∷ es) = go (before k lo) refl
    where
      go : (x : Bool) → before k lo ≡ x → row_next sh lo none k v && walk_list sh lo hi (some k) es ≡ row_here sh lo hi none k v && leaf_list sh lo hi (some k) es
      go true b = unfold row_next after row_here follows owns in rw b (too-low (machine.goes_on sh k) (value_fits v) (leaf_list sh lo hi (some k) es) (before k hi))
      go false b = front b (row-owned k v (walk_list sh lo hi (some k) es) (leaf_list sh lo hi (some k) es) b (list-after k es b))
        where
          front : before k lo ≡ false → (machine.goes_on sh k && value_fits v) && walk_list sh lo hi (some k) es ≡ (machine.goes_on sh k && owns lo hi k && value_fits v) && leaf_list sh lo hi (some k) es
              → row_next sh lo none k v && walk_list sh lo hi (some k) es ≡ row_here sh lo hi none k v && leaf_list sh lo hi (some k) es
          front b e = unfold row_next after row_here follows in rw b e
  list_all (defined.child i k ∷ es) = refl
  list_all (defined.message m ∷ es) = refl

  pub walk_is : (x : Option (List defined.Entry)) → walk_run sh lo hi none x ≡ leaf_run sh lo hi none x
  unfolding walk_run leaf_run
  walk_is none = refl
  walk_is (some es) = list_all es

-- the walk over what is left of a leaf's bytes, entry by entry
module _ (sh : machine.Shape) (lo hi : List ℕ) where
  run-pair : (prev : Option (List ℕ)) (k v : List ℕ) (y : Option (List defined.Entry))
      → walk_run sh lo hi prev (defined.entry_then (some (defined.pair k v)) y) ≡ row_next sh lo prev k v && walk_run sh lo hi (some k) y
  unfolding walk_run walk_list defined.entry_then
  run-pair prev k v none = sym (and-false (row_next sh lo prev k v))
  run-pair prev k v (some es) = refl

  run-other : (prev : Option (List ℕ)) (e : Entry) (y : Option (List defined.Entry)) → ((k v : Bor (List ℕ)) → e ≡ Entry.Pair k v → ⊥)
      → walk_run sh lo hi prev (defined.entry_then (some (entry_is e)) y) ≡ false
  unfolding walk_run walk_list defined.entry_then
  run-other prev (Entry.Pair k v) y h = absurd (h k v refl)
  run-other prev (Entry.Child i k) none h = refl
  run-other prev (Entry.Child i k) (some es) h = refl
  run-other prev (Entry.Message m) none h = refl
  run-other prev (Entry.Message m) (some es) h = refl

  pub leaf-unread : (prev : Option (List ℕ)) (b : List ℕ) (answer : Bool) → (length b ≡ 0 → ⊥) → Unread b → walk_run sh lo hi prev (defined.entries_of b) ≡ answer → false ≡ answer
  unfolding walk_run
  leaf-unread prev [] answer h u inv = absurd (h refl)
  leaf-unread prev (c ∷ b) answer h u inv = rw (u.first (omega arith)) at inv

  pub leaf-over : (prev : Option (List ℕ)) (b : List ℕ) (answer x v : Bool) → length b ≡ 0 → x ≡ closes hi prev → x ≡ v
      → walk_run sh lo hi prev (defined.entries_of b) ≡ answer → v ≡ answer
  leaf-over prev [] answer x v h e f inv = sym f ∙ e ∙ (unfold walk_run walk_list defined.entries_of defined.read_all in inv)
  leaf-over prev (c ∷ b) answer x v h e f inv = absurd (omega arith)

  module _ (prev : Option (List ℕ)) (b r : List ℕ) (e : Entry) (l : Leads b e r) (answer : Bool) (inv : walk_run sh lo hi prev (defined.entries_of b) ≡ answer) where
    pub leaf-other : ((k v : Bor (List ℕ)) → e ≡ Entry.Pair k v → ⊥) → false ≡ answer
    leaf-other h = sym (run-other prev e (defined.entries_of r) h) ∙ ap (λ o. walk_run sh lo hi prev o) (sym l.first) ∙ inv

    module _ (k v : Bor (List ℕ)) (q : e ≡ Entry.Pair k v) (x : Bool) (g : x ≡ row_next sh lo prev k.now v.now) where
      step_is : x && walk_run sh lo hi (some k.now) (defined.entries_of r) ≡ answer
      step_is =
          ap (λ z. z && walk_run sh lo hi (some k.now) (defined.entries_of r)) g
          ∙ sym (run-pair prev k.now v.now (defined.entries_of r))
          ∙ ap (λ z. walk_run sh lo hi prev (defined.entry_then (some (entry_is z)) (defined.entries_of r))) (sym q)
          ∙ ap (λ o. walk_run sh lo hi prev o) (sym l.first) ∙ inv

      pub leaf-stop : x ≡ false → false ≡ answer
      leaf-stop f = rw f at step_is

      pub leaf-on : x ≡ true → walk_run sh lo hi (some k.now) (defined.entries_of r) ≡ answer
      leaf-on f = rw f at step_is
