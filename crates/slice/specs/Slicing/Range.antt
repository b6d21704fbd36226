-- The range of a path: from it up to it followed by FF.
use Rattle.std.specs.Prelude.{ℕ, suc, ◌≤◌, ◌≡◌, refl, List, [], ◌∷◌, ◌++◌, Bool, true, false, ◌&&◌, ◌||◌, length, eqb, leb, ltb}
use Rattle.image.specs.Prelude.{sym, ap, ◌∙◌, append-nil, false≢true, true≢false, arith, length-append, eqb-true, leb-true, lt-ltb, eq-eqb, le-ltb, cases}
use Rattle.image.specs.Bytes.{before, begins, shared}
use Rattle.image.specs.Path.{letter, reads_on, path_limit, well_formed, owns}
use Rattle.image.specs.Sound.{highest}
use Rattle.octets.specs.Order.{and_left, and_right, not_so, between-begins, shared-append}
use Rattle.laws.specs.Rising.{both}
use Rattle.laws.specs.LookupTable.{not_low, under-high}

-- the end of the range
abbrev pub past : List ℕ → List ℕ
past p = p ++ highest

pub before-past : (p : List ℕ) → before p (past p) ≡ true
unfolding before
before-past [] = refl
before-past (a ∷ p) = rw (eq-eqb a a refl, le-ltb a a (omega arith)) (before-past p)

-- a path before another and no beginning of it: so are its extensions
pub before-aside : (p q x : List ℕ) → before p q ≡ true → begins p q ≡ false → before (p ++ x) q ≡ true
unfolding before begins
before-aside [] q x e f = absurd (true≢false f)
before-aside (a ∷ p) [] x e f = absurd (false≢true e)
before-aside (a ∷ p) (b ∷ q) x e f = go (ltb a b) refl (eqb a b) refl (before-aside p q x)
  where
    go : (u : Bool) → ltb a b ≡ u → (v : Bool) → eqb a b ≡ v → (before p q ≡ true → begins p q ≡ false → before (p ++ x) q ≡ true)
        → ltb a b || (eqb a b && before (p ++ x) q) ≡ true
    go true c v d ih = rw c
    go false c true d ih = rw (c, d) (ih (rw (c, d) at e) (rw d at f))
    go false c false d ih = not_so e (rw (c, d))

-- every byte is below FF
unfoldable pub low_bytes : List ℕ → Bool
low_bytes [] = true
low_bytes (b ∷ p) = ltb b 0xFF && low_bytes p

letter-low : (b : ℕ) → letter b ≡ true → ltb b 0xFF ≡ true
unfolding letter
letter-low b e = lt-ltb b 0xFF (let h : b ≤ 0x7E = leb-true b 0x7E (and_right (leb 0x21 b) _ (and_left _ _ e)) in omega arith)

reads-low : (d h : ℕ) (p : List ℕ) → reads_on d h p ≡ true → low_bytes p ≡ true
unfolding reads_on low_bytes
reads-low d h [] e = refl
reads-low d h (b ∷ p) e =
    cases (eqb b 0) (λ c. both (lt-ltb b 0xFF (let z : b ≡ 0 = eqb-true b 0 c in omega arith)) (reads-low (suc d) 0 p (and_right (leb 1 h && leb h 16) _ (rw c at e))))
    (λ c. both (letter-low b (and_left _ _ (rw c at e))) (reads-low d (suc h) p (and_right (letter b) _ (rw c at e))))

pub formed-low : (p : List ℕ) → well_formed p ≡ true → low_bytes p ≡ true
unfolding well_formed
formed-low p e = reads-low 0 0 p (and_right (leb (length p) path_limit) _ e)

pub begins-under : (p q : List ℕ) → low_bytes q ≡ true → begins p q ≡ true → before q (past p) ≡ true
unfolding begins before low_bytes
begins-under [] [] l e = refl
begins-under [] (b ∷ q) l e = rw (and_left (ltb b 0xFF) _ l)
begins-under (a ∷ p) [] l e = absurd (false≢true e)
begins-under (a ∷ p) (b ∷ q) l e =
    let h : a ≡ b = eqb-true a b (and_left _ _ e) in
    rw (le-ltb b a (omega arith), eq-eqb b a (sym h)) (begins-under p q (and_right (ltb b 0xFF) _ l) (and_right (eqb a b) _ e))

shared-past : (p : List ℕ) → shared p (past p) ≡ p
unfolding shared
shared-past p = ap (λ x. shared x (past p)) (sym (append-nil p)) ∙ shared-append p [] highest ∙ append-nil p

-- for paths, to be below p is to lie in its range
pub range-below : (p q : List ℕ) → owns p (past p) q ≡ true → begins p q ≡ true
range-below p q o = rw (← shared-past p) (between-begins p (past p) q (not_low p (past p) q o) (under-high p (past p) q o))

-- a well-formed path lies inside the root's range, and so does the end of its range
pub formed-inside : (p : List ℕ) → well_formed p ≡ true → (before [] p ≡ true) × (before (past p) highest ≡ true)
unfolding before low_bytes well_formed reads_on
formed-inside [] e = absurd (false≢true (and_right (leb 0 path_limit) _ e))
formed-inside (a ∷ p) e = (refl, rw (and_left (ltb a 0xFF) _ (formed-low (a ∷ p) e)))

pub formed-length : (p : List ℕ) → well_formed p ≡ true → length (past p) ≤ 65
unfolding well_formed
formed-length p e = rw (length-append p highest) (let h : length p ≤ 64 = leb-true (length p) 64 (and_left _ _ e) in omega arith)
