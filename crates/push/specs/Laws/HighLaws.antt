-- The high pivot that is found from the root down is that of the reachable node of this number, without what the node lifts.
-- Relies on `place-append` (laws/Upkeep/Healed).
use Rattle.std.specs.Prelude.{ℕ, ◌-◌, ◌≡◌, refl, List, [], ◌++◌, Bool, true, false, cond, length, drop, eqb}
use Rattle.image.specs.Prelude.{sym, ap, ap₂, ◌∙◌, append_assoc, false≢true, Option, none, some, Option·some-injective, Option·none-ne-some, length-append, drop-append-add}
use Rattle.image.specs.Bytes.{shared}
use Rattle.image.specs.Table.{Row}
use Rattle.image.specs.Image.{Tree, unread, leaf, interior, Forest, end, tree}
use Rattle.image.specs.Meaning.{high_of}
use Rattle.image.specs.Upkeep.{Reachable, reachable, reachable_in, reachable_at}
use Rattle.image.specs.Contract.{has_children}
use Rattle.octets.specs.Order.{begins-split, shared-append}
use Rattle.octets.specs.Beginnings.{shared-right}
use Rattle.laws.specs.Reading.Relative.{lifts}
use Rattle.laws.specs.Upkeep.Healed as healed
use Rattle.push.specs.Laws.High.{or_else, high_here, high_in}

-- a node's high pivot without what it lifts
abbrev pub own_high : Reachable → List ℕ
own_high x = drop (length (shared x.low x.high)) x.high

-- one node, then others
cond-none : {A B : Type 0} (b : Bool) (x : A) (o : Option A) (h : B) (g : Option B) → cond b (some x) o ≡ none → (o ≡ none → g ≡ none) → cond b (some h) g ≡ none
cond-none true x o h g e f = absurd (Option·none-ne-some x (sym e))
cond-none false x o h g e f = f e

cond-some : {A B : Type 0} (b : Bool) (x y : A) (o : Option A) (h : B) (g : Option B) (z : B) → cond b (some x) o ≡ some y → (x ≡ y → h ≡ z) → (o ≡ some y → g ≡ some z)
    → cond b (some h) g ≡ some z
cond-some true x y o h g z e f k = ap some (f (Option·some-injective x y e))
cond-some false x y o h g z e f k = k e

else-none : (o p : Option Reachable) (g k : Option (List ℕ)) → healed.or_else o p ≡ none → (o ≡ none → g ≡ none) → (p ≡ none → k ≡ none) → or_else g k ≡ none
unfolding healed.or_else or_else
else-none none p g k e a b = ap (λ z. or_else z k) (a refl) ∙ b e
else-none (some x) p g k e a b = absurd (Option·none-ne-some x (sym e))

else-some : (o p : Option Reachable) (x : Reachable) (g k : Option (List ℕ)) (z : List ℕ) → healed.or_else o p ≡ some x → (o ≡ none → g ≡ none) → (o ≡ some x → g ≡ some z)
    → (p ≡ some x → k ≡ some z) → or_else g k ≡ some z
unfolding healed.or_else or_else
else-some none p x g k z e a b c = ap (λ w. or_else w k) (a refl) ∙ c e
else-some (some y) p x g k z e a b c = ap (λ w. or_else w k) (b e)

-- what a node lifts, with the parent's prefix `prefix` in front of its pivots
module _ (prefix lo hi : List ℕ) where
  whole-lift : shared (prefix ++ lo) (prefix ++ hi) ≡ prefix ++ shared lo hi
  whole-lift = shared-append prefix lo hi

  own_is : drop (length (shared (prefix ++ lo) (prefix ++ hi))) (prefix ++ hi) ≡ drop (lifts lo hi) hi
  unfolding lifts
  own_is = ap (λ l. drop (length l) (prefix ++ hi)) whole-lift ∙ ap (λ n. drop n (prefix ++ hi)) (length-append prefix (shared lo hi)) ∙ drop-append-add prefix hi (length (shared lo hi))

  high_is : prefix ++ hi ≡ (prefix ++ shared lo hi) ++ drop (lifts lo hi) hi
  unfolding lifts
  high_is = ap (λ l. prefix ++ l) (sym (begins-split (shared lo hi) hi (shared-right lo hi))) ∙ sym (append_assoc prefix (shared lo hi) (drop (length (shared lo hi)) hi))

  inside_is : (f : Forest) (level : ℕ) → reachable_in f level (shared (prefix ++ lo) (prefix ++ hi)) (prefix ++ hi) ≡ reachable_in f level (prefix ++ shared lo hi) ((prefix ++ shared lo hi) ++ drop (lifts lo hi) hi)
  inside_is f level = ap₂ (λ a b. reachable_in f level a b) whole-lift high_is

high-of : (f : Forest) (prefix h : List ℕ) → high_of prefix (prefix ++ h) f ≡ prefix ++ high_of [] h f
unfolding high_of
high-of end prefix h = refl
high-of (tree s t f) prefix h = refl

leaf-place : (n i : ℕ) (rs : List Row) (level : ℕ) (lo hi : List ℕ) (x : Reachable) (g : Option (List ℕ)) (z : List ℕ) → reachable_at n (reachable (leaf i rs) level lo hi) ≡ some x
    → has_children x.children ≡ true → g ≡ some z
unfolding reachable_at reachable has_children
leaf-place n i rs level lo hi x g z e c = go (eqb n i) e
  where
    top : Reachable
    top = record { number = i; level = level; low = lo; high = hi; messages = []; children = end }

    go : (b : Bool) → cond b (some top) none ≡ some x → g ≡ some z
    go true q = absurd (false≢true (ap (λ (y : Reachable). has_children y.children) (Option·some-injective top x q) ∙ c))
    go false q = absurd (Option·none-ne-some x q)

no_place : (n : ℕ) (x : Reachable) (g : Option (List ℕ)) (z : List ℕ) → reachable_at n [] ≡ some x → g ≡ some z
unfolding reachable_at
no_place n x g z e = absurd (Option·none-ne-some x e)

mutual
  unfolding reachable reachable_in reachable_at high_here high_in

  none_here : (t : Tree) (n level : ℕ) (prefix lo hi : List ℕ) → reachable_at n (reachable t level (prefix ++ lo) (prefix ++ hi)) ≡ none → high_here n t lo hi ≡ none
  none_here (unread i) n level prefix lo hi e = refl
  none_here (leaf i rs) n level prefix lo hi e = refl
  none_here (interior i f ms) n level prefix lo hi e =
      cond-none (eqb n i) (record { number = i; level = level; low = prefix ++ lo; high = prefix ++ hi; messages = ms; children = f })
      (reachable_at n (reachable_in f (level - 1) (shared (prefix ++ lo) (prefix ++ hi)) (prefix ++ hi))) (drop (lifts lo hi) hi) (high_in n f (drop (lifts lo hi) hi)) e
      (λ q. none_in f n (level - 1) (prefix ++ shared lo hi) (drop (lifts lo hi) hi) (ap (reachable_at n) (sym (inside_is prefix lo hi f (level - 1))) ∙ q))

  none_in : (f : Forest) (n level : ℕ) (prefix h : List ℕ) → reachable_at n (reachable_in f level prefix (prefix ++ h)) ≡ none → high_in n f h ≡ none
  none_in end n level prefix h e = refl
  none_in (tree s t f) n level prefix h e =
      else-none (reachable_at n (reachable t level (prefix ++ s) (high_of prefix (prefix ++ h) f))) (reachable_at n (reachable_in f level prefix (prefix ++ h)))
      (high_here n t s (high_of [] h f)) (high_in n f h)
      (sym (healed.place-append n (reachable t level (prefix ++ s) (high_of prefix (prefix ++ h) f)) (reachable_in f level prefix (prefix ++ h))) ∙ e)
      (λ q. none_here t n level prefix s (high_of [] h f) (ap (λ z. reachable_at n (reachable t level (prefix ++ s) z)) (sym (high-of f prefix h)) ∙ q))
      (λ q. none_in f n level prefix h q)

mutual
  unfolding reachable reachable_in reachable_at high_here high_in

  pub some-here : (t : Tree) (n level : ℕ) (prefix lo hi : List ℕ) (x : Reachable) → reachable_at n (reachable t level (prefix ++ lo) (prefix ++ hi)) ≡ some x → has_children x.children ≡ true
      → high_here n t lo hi ≡ some (own_high x)
  some-here (unread i) n level prefix lo hi x e c = no_place n x none (own_high x) e
  some-here (leaf i rs) n level prefix lo hi x e c = leaf-place n i rs level (prefix ++ lo) (prefix ++ hi) x none (own_high x) e c
  some-here (interior i f ms) n level prefix lo hi x e c =
      cond-some (eqb n i) (record { number = i; level = level; low = prefix ++ lo; high = prefix ++ hi; messages = ms; children = f }) x
      (reachable_at n (reachable_in f (level - 1) (shared (prefix ++ lo) (prefix ++ hi)) (prefix ++ hi))) (drop (lifts lo hi) hi) (high_in n f (drop (lifts lo hi) hi)) (own_high x) e
      (λ q. sym (own_is prefix lo hi) ∙ ap (λ (y : Reachable). own_high y) q)
      (λ q. some_in f n (level - 1) (prefix ++ shared lo hi) (drop (lifts lo hi) hi) x (ap (reachable_at n) (sym (inside_is prefix lo hi f (level - 1))) ∙ q) c)

  some_in : (f : Forest) (n level : ℕ) (prefix h : List ℕ) (x : Reachable) → reachable_at n (reachable_in f level prefix (prefix ++ h)) ≡ some x → has_children x.children ≡ true
      → high_in n f h ≡ some (own_high x)
  some_in end n level prefix h x e c = no_place n x none (own_high x) e
  some_in (tree s t f) n level prefix h x e c =
      else-some (reachable_at n (reachable t level (prefix ++ s) (high_of prefix (prefix ++ h) f))) (reachable_at n (reachable_in f level prefix (prefix ++ h))) x
      (high_here n t s (high_of [] h f)) (high_in n f h) (own_high x)
      (sym (healed.place-append n (reachable t level (prefix ++ s) (high_of prefix (prefix ++ h) f)) (reachable_in f level prefix (prefix ++ h))) ∙ e)
      (λ q. none_here t n level prefix s (high_of [] h f) (ap (λ z. reachable_at n (reachable t level (prefix ++ s) z)) (sym (high-of f prefix h)) ∙ q))
      (λ q. some-here t n level prefix s (high_of [] h f) x (ap (λ z. reachable_at n (reachable t level (prefix ++ s) z)) (sym (high-of f prefix h)) ∙ q) c)
      (λ q. some_in f n level prefix h x q c)
