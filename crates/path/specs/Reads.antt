-- The rest of a path within its length: the paper's `reads_on`, byte by byte, for the loop that asks it, and `goes_on` from it.
-- Relies on Shape, which has `goes_on` as a length and `reads_on`.
use Rattle.std.specs.Prelude.{Option, None, Some, ℕ, ◌+◌, ◌-◌, ◌<◌, ◌≤◌, ◌≡◌, refl, List, ◌∷◌, Bool, true, false, ◌&&◌, ◌⊎◌, length, drop, get_or, ltb, leb, eqb}
use Rattle.image.specs.Prelude.{sym, ap, ◌∙◌, inl, inr, arith, drop_of_length-le, drop-cons, le-leb, lt-leb, eq-eqb, ne_eqb, ltb-true, ltb-false, add-one}
use Rattle.image.specs.Path.{letter, reads_on}
use Rattle.path.specs.Shape as defined
use Rattle.path.specs.Fed.{Shape, shape_is}
use Rattle.path.specs.declared.Reading.{Reading}

-- what one byte leaves of the question
unfoldable pub Left : ℕ → ℕ → ℕ → Option Reading → List ℕ → Type 0
Left done here b None p = reads_on done here (b ∷ p) ≡ false
Left done here b (Some r) p = reads_on done here (b ∷ p) ≡ reads_on r.components r.here p

pub record Reads (done here b : ℕ) (r : Option Reading) : Type 0 where
  pub left : (p : List ℕ) → Left done here b r p
  pub few : (q : Reading) → r ≡ Some q → (q.components ≤ done + 1) × (q.here ≤ here + 1)

abbrev at : ℕ → ℕ → Option Reading
at components here = Some (record { components = components; here = here })

letter-high : (b : ℕ) → 47 < b → b ≤ 126 → letter b ≡ true
unfolding letter
letter-high b h k = rw (le-leb 33 b (omega arith), le-leb b 126 k, ne_eqb b 47 (λ e. omega arith))

letter-low : (b : ℕ) → 33 ≤ b → b ≤ 47 → (b ≡ 47 → ⊥) → letter b ≡ true
unfolding letter
letter-low b h k d = rw (le-leb 33 b h, le-leb b 126 (omega arith), ne_eqb b 47 d)

-- what is no letter past `/`: past the letters, or `/` at most
pub no-letter : (b : ℕ) → (127 ≤ b) ⊎ (b ≤ 47) → 47 < b → 126 < b
no-letter b (inl h) k = omega arith
no-letter b (inr h) k = absurd (omega arith)

-- the ways out of one byte
module _ (done here b : ℕ) where
  bad : ((p : List ℕ) → reads_on done here (b ∷ p) ≡ false) → Reads done here b None
  unfolding Left
  bad f = record { left = f; few = λ q e. absurd (let z : ◌≡◌ {A = ℕ} 0 1 = cc in omega arith) }

  on : (letter b ≡ true) → (b ≡ 0 → ⊥) → Reads done here b (at done (here + 1))
  unfolding Left reads_on
  on e nz =
      record {
        left = λ p. rw (ne_eqb b 0 nz, e, add-one here) refl;
        few = λ q e. (let z : done ≡ q.components = cc in omega arith, let z : here + 1 ≡ q.here = cc in omega arith);
      }

  byte_high : 126 < b → Reads done here b None
  unfolding reads_on letter
  byte_high h = bad (λ p. rw (ne_eqb b 0 (λ e. omega arith), le-leb 33 b (omega arith), lt-leb b 126 h) refl)

  pub byte-letter : 47 < b → b ≤ 126 → Reads done here b (at done (here + 1))
  byte-letter h k = on (letter-high b h k) (λ e. omega arith)

  pub byte-empty : b ≡ 0 → here < 1 → Reads done here b None
  unfolding reads_on
  byte-empty z h = bad (λ p. rw (eq-eqb b 0 z, lt-leb 1 here h) refl)

  pub byte-wide : b ≡ 0 → 16 < here → Reads done here b None
  unfolding reads_on
  byte-wide z h = bad (λ p. rw (eq-eqb b 0 z, le-leb 1 here (omega arith), lt-leb here 16 h) refl)

  pub byte-end : b ≡ 0 → 1 ≤ here → here ≤ 16 → Reads done here b (at (done + 1) 0)
  unfolding Left reads_on
  byte-end z h k =
      record {
        left = λ p. rw (eq-eqb b 0 z, le-leb 1 here h, le-leb here 16 k, add-one done) refl;
        few = λ q e. (let y : done + 1 ≡ q.components = cc in omega arith, let y : ◌≡◌ {A = ℕ} 0 q.here = cc in omega arith);
      }

  pub byte_low : (b ≡ 0 → ⊥) → b < 33 → Reads done here b None
  unfolding reads_on letter
  byte_low nz h = bad (λ p. rw (ne_eqb b 0 nz, lt-leb 33 b h) refl)

  byte-slash : b ≡ 47 → Reads done here b None
  unfolding reads_on letter
  byte-slash e = bad (λ p. rw (ne_eqb b 0 (λ z. omega arith), le-leb 33 b (omega arith), le-leb b 126 (omega arith), eq-eqb b 47 e) refl)

  -- past the signs before `/`, and no letter
  pub byte-over : 46 < b → (47 < b → 126 < b) → Reads done here b None
  byte-over h k = go (ltb 47 b) refl
    where
      go : (x : Bool) → ltb 47 b ≡ x → Reads done here b None
      go true e = byte_high (k (ltb-true 47 b e))
      go false e = byte-slash (let l = ltb-false 47 b e in omega arith)

  pub byte-sign : b ≤ 47 → 33 ≤ b → (b ≡ 47 → ⊥) → Reads done here b (at done (here + 1))
  byte-sign k h d = on (letter-low b h k d) (λ e. omega arith)

-- the loop
module _ (s : List ℕ) (i d h : ℕ) (answer : Bool) (inside : i < length s) (inv : reads_on d h (drop i s) ≡ answer) (r : Option Reading) (q : Reads d h (get_or s i 0) r) where
  here_is : drop i s ≡ get_or s i 0 ∷ drop (i + 1) s
  here_is = rw (add-one i, drop-cons s i 0 inside) refl

  pub reads-bad : r ≡ None → false ≡ answer
  unfolding Left
  reads-bad e = let f : Left d h (get_or s i 0) None (drop (i + 1) s) = rw e at (q.left (drop (i + 1) s)) in sym f ∙ sym (ap (reads_on d h) here_is) ∙ inv

  pub reads-on : (x : Reading) → r ≡ Some x → reads_on x.components x.here (drop (i + 1) s) ≡ answer
  unfolding Left
  reads-on x e = let f : Left d h (get_or s i 0) (Some x) (drop (i + 1) s) = rw e at (q.left (drop (i + 1) s)) in sym f ∙ sym (ap (reads_on d h) here_is) ∙ inv

module _ (s : List ℕ) (i d h : ℕ) (answer : Bool) (over : length s ≤ i) (inv : reads_on d h (drop i s) ≡ answer) where
  pub ended : leb 1 d && leb d 8 && eqb h 0 ≡ answer
  unfolding reads_on
  ended = rw (drop_of_length-le s over) at inv

-- the whole: a length, and then the loop
module _ (sh : Shape) (s : List ℕ) where
  pub goes-dead : sh ≡ None → false ≡ defined.goes_on (shape_is sh) s
  unfolding shape_is defined.goes_on
  goes-dead e = rw e (sym (defined.feed-dead s))

  module _ (done here len : ℕ) (e : sh ≡ Some (record { components = done; here = here; bytes = len })) where
    says : defined.goes_on (shape_is sh) s ≡ leb (len + length s) 64 && reads_on done here s
    unfolding shape_is defined.goes_on
    says = rw e (defined.open-reads done here len s)

    pub goes-past : 64 < len → false ≡ defined.goes_on (shape_is sh) s
    goes-past h = rw (says, lt-leb (len + length s) 64 (omega arith)) refl

    pub goes-long : len ≤ 64 → 64 - len < length s → false ≡ defined.goes_on (shape_is sh) s
    goes-long l h = rw (says, lt-leb (len + length s) 64 (omega arith)) refl

    module _ (short : len ≤ 64) (fits : length s ≤ 64 - len) where
      reads : defined.goes_on (shape_is sh) s ≡ reads_on done here s
      reads = rw (says, le-leb (len + length s) 64 (omega arith)) refl

      pub goes-many : 8 < done → false ≡ defined.goes_on (shape_is sh) s
      goes-many h = sym (reads ∙ defined.many done here s h)

      pub goes-wide : 16 < here → false ≡ defined.goes_on (shape_is sh) s
      goes-wide h = sym (reads ∙ defined.wide done here s h)

      pub goes-reads : (b : Bool) → b ≡ reads_on done here s → b ≡ defined.goes_on (shape_is sh) s
      goes-reads b q = q ∙ sym reads
