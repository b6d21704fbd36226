-- The shape of a path as a small state machine that is fed bytes, slice by slice: so a suffix is judged after its prefix without joining
-- them. Each counter stays within the limit that a path has for it, so that code cannot overflow. `shape-is`: it is the definition.
use Rattle.std.specs.Prelude.{ℕ, suc, ◌+◌, ◌<◌, ◌≤◌, ◌≡◌, refl, List, [], ◌∷◌, ◌++◌, Bool, true, false, ◌&&◌, cond, length, ltb, leb, eqb}
use Rattle.image.specs.Prelude.{sym, ap, ◌∙◌, and-false, arith, ne_eqb, lt-leb, le-leb, ltb-false}
use Rattle.image.specs.Path.{letter, reads_on, path_limit, well_formed}

-- after some bytes: no path begins so, or it has whole components, bytes of the next, and bytes in all
pub data Shape : Type 0 where
  dead : Shape
  partway : ℕ → ℕ → ℕ → Shape

-- each number stays within the limit that a path has for it
unfoldable pub fed : Shape → ℕ → Shape
fed dead b = dead
fed (partway done here len) b =
    cond (ltb len path_limit)
    (cond (eqb b 0) (cond (leb 1 here && leb here 16 && ltb done 8) (partway (suc done) 0 (suc len)) dead)
    (cond (letter b && ltb here 16) (partway done (suc here) (suc len)) dead))
    dead

unfoldable pub feed : Shape → List ℕ → Shape
feed sh [] = sh
feed sh (b ∷ p) = feed (fed sh b) p

-- what was fed is a well-formed path
unfoldable pub closed : Shape → Bool
closed dead = false
closed (partway done here len) = leb len path_limit && (leb 1 done && leb done 8 && eqb here 0)

unfoldable pub goes_on : Shape → List ℕ → Bool
goes_on sh s = closed (feed sh s)

pub feed-append : (sh : Shape) (a b : List ℕ) → feed sh (a ++ b) ≡ feed (feed sh a) b
unfolding feed
feed-append sh [] b = refl
feed-append sh (x ∷ a) b = feed-append (fed sh x) a b

pub feed-dead : (p : List ℕ) → closed (feed dead p) ≡ false
unfolding feed fed closed
feed-dead [] = refl
feed-dead (b ∷ p) = feed-dead p

-- too many components, or too long a one, is never mended
pub many : (done here : ℕ) (p : List ℕ) → 8 < done → reads_on done here p ≡ false
unfolding reads_on
many done here [] h = rw (lt-leb done 8 h) (rw (le-leb 1 done (omega arith)))
many done here (b ∷ p) h = go (eqb b 0) (leb 1 here && leb here 16) (letter b) (many (suc done) 0 p (omega arith)) (many done (suc here) p h)
  where
    go : (x y z : Bool) → reads_on (suc done) 0 p ≡ false → reads_on done (suc here) p ≡ false → cond x (y && reads_on (suc done) 0 p) (z && reads_on done (suc here) p) ≡ false
    go true true z u v = u
    go true false z u v = refl
    go false y true u v = v
    go false y false u v = refl

pub wide : (done here : ℕ) (p : List ℕ) → 16 < here → reads_on done here p ≡ false
unfolding reads_on
wide done here [] h = rw (ne_eqb here 0 (λ e. omega arith)) (and-false (leb 1 done && leb done 8))
wide done here (b ∷ p) h = rw (lt-leb here 16 h, le-leb 1 here (omega arith)) (go (eqb b 0) (letter b) (wide done (suc here) p (omega arith)))
  where
    go : (x z : Bool) → reads_on done (suc here) p ≡ false → cond x false (z && reads_on done (suc here) p) ≡ false
    go true z v = refl
    go false true v = v
    go false false v = refl

-- the state says what the definition says
abbrev pub Says : ℕ → ℕ → ℕ → List ℕ → Type 0
Says done here len p = closed (feed (partway done here len) p) ≡ leb (len + length p) path_limit && reads_on done here p

reads-nil : (done here len : ℕ) → Says done here len []
unfolding feed closed reads_on
reads-nil done here len = let e : len ≡ len + 0 = omega arith in ap (λ n. leb n path_limit && (leb 1 done && leb done 8 && eqb here 0)) e

reads-cons : (done here len b : ℕ) (p : List ℕ) → Says (suc done) 0 (suc len) p → Says done (suc here) (suc len) p → Says done here len (b ∷ p)
unfolding feed fed reads_on
reads-cons done here len b p u v = go (ltb len path_limit) refl (eqb b 0) refl (leb 1 here && leb here 16) refl (ltb done 8) refl (letter b) refl (ltb here 16) refl
  where
    longer : (x : Bool) → leb (suc len + length p) path_limit && x ≡ leb (len + length (b ∷ p)) path_limit && x
    longer x = let e : suc len + length p ≡ len + suc (length p) = omega arith in ap (λ n. leb n path_limit && x) e

    short : ltb len path_limit ≡ false → (x : Bool) → false ≡ leb (len + suc (length p)) path_limit && x
    short h x = rw (lt-leb (len + suc (length p)) path_limit (let k : path_limit ≤ len = ltb-false len path_limit h in omega arith))

    no : (x : Bool) → x ≡ false → false ≡ leb (len + suc (length p)) path_limit && x
    no x h = rw h (sym (and-false (leb (len + suc (length p)) path_limit)))

    go : (a : Bool) → ltb len path_limit ≡ a → (x : Bool) → eqb b 0 ≡ x → (y : Bool) → leb 1 here && leb here 16 ≡ y → (d : Bool) → ltb done 8 ≡ d → (z : Bool) → letter b ≡ z → (w : Bool) → ltb here 16 ≡ w
        → Says done here len (b ∷ p)
    go false k x e y f d m z g w n = rw k (feed-dead p ∙ short k _)
    go true k true e true f true m z g w n = rw (k, e, f, m) (u ∙ longer (reads_on (suc done) 0 p))
    go true k true e true f false m z g w n = rw (k, e, f, m) (feed-dead p ∙ no _ (many (suc done) 0 p (let q : 8 ≤ done = ltb-false done 8 m in omega arith)))
    go true k true e false f d m z g w n = rw (k, e, f) (feed-dead p ∙ no _ refl)
    go true k false e y f d m true g true n = rw (k, e, g, n) (v ∙ longer (reads_on done (suc here) p))
    go true k false e y f d m true g false n = rw (k, e, g, n) (feed-dead p ∙ no _ (wide done (suc here) p (let q : 16 ≤ here = ltb-false here 16 n in omega arith)))
    go true k false e y f d m false g w n = rw (k, e, g) (feed-dead p ∙ no _ refl)

pub open-reads : (done here len : ℕ) (p : List ℕ) → Says done here len p
open-reads done here len [] = reads-nil done here len
open-reads done here len (b ∷ p) = reads-cons done here len b p (open-reads (suc done) 0 (suc len) p) (open-reads done (suc here) (suc len) p)

abbrev pub fresh : Shape
fresh = partway 0 0 0

pub shape-is : (prefix s : List ℕ) → goes_on (feed fresh prefix) s ≡ well_formed (prefix ++ s)
unfolding goes_on well_formed
shape-is prefix s =
    ap (λ x. closed x) (sym (feed-append fresh prefix s)) ∙ open-reads 0 0 0 (prefix ++ s) ∙ ap (λ n. leb n path_limit && reads_on 0 0 (prefix ++ s)) (zero-plus (length (prefix ++ s)))
  where
    zero-plus : (n : ℕ) → 0 + n ≡ n
    zero-plus n = omega arith
