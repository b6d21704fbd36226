-- The steps of free_list: what is listed so far, with what is still to be looked at, is the whole list.
-- Relies on packed's laws of numbers put one after another.
use Rattle.std.specs.Prelude.{ℕ, zero, suc, ◌+◌, ◌-◌, ◌≤◌, ◌<◌, ◌≡◌, refl, List, [], ◌∷◌, ◌++◌, Bool, true, false, length, get_or, eqb, set}
use Rattle.image.specs.Prelude.{sym, ap, ap₂, ◌∙◌, append_assoc, append-nil, arith, eq-eqb, ne_eqb, get_or-set_same}
use Rattle.packed.specs.Build.Handed.{listed}
use Rattle.packed.specs.Build.CountSteps.{listed-end, listed-alike, number-before}
use Rattle.swing.specs.Spare.Spare.{unmarked}

pub list-first : (seen b : List ℕ) (n : ℕ) → listed 0 b 0 ++ unmarked (n - 1) 1 seen ≡ unmarked (n - 1) 1 seen
unfolding listed
list-first seen b n = refl

-- ONE NODE
pub note-marked : (seen b : List ℕ) (k i : ℕ) → (get_or seen i 0 ≡ 0 → ⊥) → listed k b 0 ≡ listed k b 0 ++ unmarked 1 i seen
unfolding unmarked
note-marked seen b k i h = rw (ne_eqb (get_or seen i 0) 0 h) (sym (append-nil (listed k b 0)))

pub note-unmarked : (seen b : List ℕ) (k i : ℕ) → k < length b → get_or seen i 0 ≡ 0 → listed (k + 1) (set b k i) 0 ≡ listed k b 0 ++ unmarked 1 i seen
unfolding unmarked
note-unmarked seen b k i r h =
    let y : k + 1 ≡ suc k = omega arith in
    let x : 0 + k ≡ k = omega arith in
    ap (λ c. listed c (set b k i) 0) y
    ∙ listed-end k (set b k i) 0
    ∙ ap₂ (λ l m. l ++ (m ∷ []))
    (listed-alike k b (set b k i) 0 (λ t p. number-before b k i t (omega arith)))
    (ap (λ p. get_or (set b k i) p 0) x ∙ get_or-set_same b k i 0 r)
    ∙ sym (ap (λ l. listed k b 0 ++ l) (rw (eq-eqb (get_or seen i 0) 0 h)))

-- THE LOOP
unmarked-step : (c i : ℕ) (seen : List ℕ) → unmarked (suc c) i seen ≡ unmarked 1 i seen ++ unmarked c (i + 1) seen
unmarked-step c i seen = go (eqb (get_or seen i 0) 0) refl
  where
    next : i + 1 ≡ suc i
    next = omega arith

    go : (x : Bool) → eqb (get_or seen i 0) 0 ≡ x → unmarked (suc c) i seen ≡ unmarked 1 i seen ++ unmarked c (i + 1) seen
    go true e = unfold unmarked in rw (e, next) refl
    go false e = unfold unmarked in rw (e, next) refl

pub list-more : (seen b b' whole : List ℕ) (n k i r : ℕ) → i < n → listed k b 0 ++ unmarked (n - i) i seen ≡ whole
    → listed r b' 0 ≡ listed k b 0 ++ unmarked 1 i seen → listed r b' 0 ++ unmarked (n - (i + 1)) (i + 1) seen ≡ whole
list-more seen b b' whole n k i r more so e =
    let z : suc (n - (i + 1)) ≡ n - i = omega arith in
    ap (λ l. l ++ unmarked (n - (i + 1)) (i + 1) seen) e
    ∙ append_assoc (listed k b 0) (unmarked 1 i seen) (unmarked (n - (i + 1)) (i + 1) seen)
    ∙ ap (λ l. listed k b 0 ++ l) (sym (unmarked-step (n - (i + 1)) i seen) ∙ ap (λ c. unmarked c i seen) z)
    ∙ so

pub list-last : (seen b whole : List ℕ) (n k i : ℕ) → n ≤ i → listed k b 0 ++ unmarked (n - i) i seen ≡ whole → listed k b 0 ≡ whole
list-last seen b whole n k i h so = sym (append-nil (listed k b 0)) ∙ ap (λ l. listed k b 0 ++ l) (none (n - i) (omega arith)) ∙ so
  where
    none : (c : ℕ) → c ≡ 0 → [] ≡ unmarked c i seen
    none zero e = unfold unmarked in refl
    none (suc c) e = absurd (omega arith)
