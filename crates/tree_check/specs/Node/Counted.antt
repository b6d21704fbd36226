-- The answer of a check that also counts, and the count as the list of entries goes by.
use Rattle.std.specs.Prelude.{ℕ, suc, ◌+◌, ◌≡◌, refl, List, [], ◌∷◌, Bool, true, false, length, is_some, Option, None, Some}
use Rattle.image.specs.Prelude.{sym, ap, ◌∙◌, arith}
use Rattle.image.specs.Entry as defined
use Rattle.node.specs.Entries.{list_of, read_some}
use Rattle.octets.specs.Cap.{cap}

-- the answer r tells the test t, and where it is a yes the number n
pub record Counts (t : Bool) (n : ℕ) (r : Option ℕ) : Type 0 where
  pub verdict : is_some r ≡ t
  pub number : (k : ℕ) → r ≡ Some k → k ≡ cap n

module _ (t : Bool) (n : ℕ) where
  pub counts-bad : false ≡ t → Counts t n None
  counts-bad e = record { verdict = e; number = λ k q. absurd (let z : ◌≡◌ {A = ℕ} 0 1 = cc in omega arith) }

  pub counts_all : (k : ℕ) → true ≡ t → k ≡ cap n → Counts t n (Some k)
  counts_all k e f = record { verdict = e; number = λ j q. let z : k ≡ j = cc in sym z ∙ f }

  -- FOR CALLERS
  module _ (r : Option ℕ) (c : Counts t n r) where
    pub counts-no : r ≡ None → t ≡ false
    counts-no e = sym c.verdict ∙ rw e

    pub counts-yes : (k : ℕ) → r ≡ Some k → t ≡ true
    counts-yes k e = sym c.verdict ∙ rw e

-- the entries of bytes, counted from the front
no_entry : (b : List ℕ) → length b ≡ 0 → list_of b ≡ []
unfolding list_of read_some
no_entry [] h = refl
no_entry (c ∷ b) h = absurd (omega arith)

pub count-done : (n answer r : ℕ) (b : List ℕ) → length b ≡ 0 → n + length (list_of b) ≡ answer → r ≡ cap (n + 0) → r ≡ cap answer
count-done n answer r b e inv h =
    let z : length (list_of b) ≡ 0 = rw (no_entry b e) in
    let q : n + 0 ≡ answer = omega arith in
    h ∙ ap (λ k. cap k) q

pub count-on : (n answer : ℕ) (l es : List defined.Entry) (e : defined.Entry) → l ≡ e ∷ es → n + length l ≡ answer → n + 1 + length es ≡ answer
count-on n answer l es e q inv =
    let z : length l ≡ suc (length es) = rw q in
    omega arith
