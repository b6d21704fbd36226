-- The numbers of a node's children, and of the nodes under those: each a part of what is under the node, and no number in both.
-- Relies on Bridge for distinct numbers of two lists.
use Rattle.std.specs.Prelude.{ℕ, ◌≡◌, refl, List, [], ◌∷◌, ◌++◌, Bool, true, false, ◌||◌, eqb}
use Rattle.image.specs.Prelude.{sym, ap, subst, ◌∙◌, false≢true, eqb-true, cases}
use Rattle.image.specs.Image.{Tree, unread, leaf, interior, Forest, end, tree}
use Rattle.image.specs.Sound.{numbers, numbers_in, is_in, once}
use Rattle.octets.specs.Order.{and_left, not_so, refuted, not-true, or-none-right, or-none-left}
use Rattle.laws.specs.Frame.{or_right, in_left, in_right}
use Rattle.laws.specs.Page.{number_of}
use Rattle.laws.specs.Upkeep.Sublists.{Sub, sub-none, sub-append}
use Rattle.laws.specs.Upkeep.Join.{heads}
use Rattle.laws.specs.Upkeep.Bridge.{once-left, once-right, once-apart}
use Rattle.laws.specs.Upkeep.HealImage.{root_in}

-- the numbers under a node, and under all children
unfoldable pub numbers_under : Tree → List ℕ
numbers_under (unread i) = []
numbers_under (leaf i rs) = []
numbers_under (interior i f ms) = numbers_in f

unfoldable pub deep_in : Forest → List ℕ
deep_in end = []
deep_in (tree s t f) = numbers_under t ++ deep_in f

pub numbers-split : (t : Tree) → numbers t ≡ number_of t ∷ numbers_under t
unfolding numbers number_of numbers_under
numbers-split (unread i) = refl
numbers-split (leaf i rs) = refl
numbers-split (interior i f ms) = refl

in-last : (j : ℕ) (is js : List ℕ) → is_in j (is ++ js) ≡ true → is_in j is ≡ false → is_in j js ≡ true
unfolding is_in
in-last j [] js e a = e
in-last j (i ∷ is) js e a =
    in-last j is js (subst (λ x. x || is_in j (is ++ js) ≡ true) (or-none-left (eqb j i) (is_in j is) a) e) (or-none-right (eqb j i) (is_in j is) a)

in-cases : (j : ℕ) (is js : List ℕ) {A : Type 0} → is_in j (is ++ js) ≡ true → (is_in j is ≡ true → A) → (is_in j js ≡ true → A) → A
in-cases j is js {A} e f g = cases (is_in j is) (λ a. f a) (λ a. g (in-last j is js e a))

pub heads-in : (j : ℕ) (f : Forest) → is_in j (heads f) ≡ true → is_in j (numbers_in f) ≡ true
unfolding heads numbers_in is_in
heads-in j end e = absurd (false≢true e)
heads-in j (tree s t f) e = go (eqb j (number_of t)) refl (λ h. heads-in j f h)
  where
    go : (x : Bool) → eqb j (number_of t) ≡ x → (is_in j (heads f) ≡ true → is_in j (numbers_in f) ≡ true) → is_in j (numbers t ++ numbers_in f) ≡ true
    go true a ih = in_left j (numbers t) (numbers_in f) (ap (λ k. is_in k (numbers t)) (eqb-true j (number_of t) a) ∙ root_in t)
    go false a ih = in_right j (numbers t) (numbers_in f) (ih (subst (λ x. x || is_in j (heads f) ≡ true) a e))

under-in : (j : ℕ) (t : Tree) → is_in j (numbers_under t) ≡ true → is_in j (numbers t) ≡ true
unfolding is_in
under-in j t e = ap (is_in j) (numbers-split t) ∙ or_right (eqb j (number_of t)) (is_in j (numbers_under t)) e

pub deep-in : (j : ℕ) (f : Forest) → is_in j (deep_in f) ≡ true → is_in j (numbers_in f) ≡ true
unfolding deep_in numbers_in is_in
deep-in j end e = e
deep-in j (tree s t f) e =
    in-cases j (numbers_under t) (deep_in f) e (λ a. in_left j (numbers t) (numbers_in f) (under-in j t a)) (λ a. in_right j (numbers t) (numbers_in f) (deep-in j f a))

-- a node under a child is no child
or-both : (a b : Bool) → a ≡ false → b ≡ false → a || b ≡ false
or-both a b e f = rw (e, f)

pub deep-apart : (j : ℕ) (f : Forest) → once (numbers_in f) ≡ true → is_in j (deep_in f) ≡ true → is_in j (heads f) ≡ false
unfolding deep_in numbers_in heads is_in once
deep-apart j end o e = absurd (false≢true e)
deep-apart j (tree s t f) o e =
    in-cases j (numbers_under t) (deep_in f) e
    (λ a. or-both (eqb j (number_of t)) (is_in j (heads f)) (own a)
    (refuted (λ c. not_so (heads-in j f c) (once-apart (numbers t) (numbers_in f) j o (under-in j t a)))))
    (λ a. or-both (eqb j (number_of t)) (is_in j (heads f))
    (refuted (λ c. not_so (deep-in j f a)
    (once-apart (numbers t) (numbers_in f) j o (ap (λ k. is_in k (numbers t)) (eqb-true j (number_of t) c) ∙ root_in t))))
    (deep-apart j f (once-right (numbers t) (numbers_in f) o) a))
  where
    root-once : once (number_of t ∷ numbers_under t) ≡ true
    root-once = ap once (sym (numbers-split t)) ∙ once-left (numbers t) (numbers_in f) o

    own : is_in j (numbers_under t) ≡ true → eqb j (number_of t) ≡ false
    own a =
        refuted (λ c. not_so a
        (ap (λ k. is_in k (numbers_under t)) (eqb-true j (number_of t) c) ∙ not-true (is_in (number_of t) (numbers_under t)) (and_left _ _ root-once)))

pub heads-sub : (f : Forest) → Sub (heads f) (numbers_in f)
unfolding heads numbers_in
heads-sub end = Sub.empty
heads-sub (tree s t f) = rw (numbers-split t) (Sub.keep (sub-append (sub-none (numbers_under t)) (heads-sub f)))
