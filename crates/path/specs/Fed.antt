-- The code's shape as the definition's, a letter more, and the loop over a slice. Relies on Shape.
use Rattle.std.specs.Prelude.{Option, None, Some, ℕ, suc, ◌+◌, ◌<◌, ◌≤◌, ◌≡◌, refl, List, [], ◌∷◌, Bool, true, length, drop, get_or}
use Rattle.image.specs.Prelude.{◌∙◌, arith, drop_of_length-le, drop-cons, lt-ltb, le-leb, ne_eqb, add-one}
use Rattle.image.specs.Bytes.{same}
use Rattle.image.specs.Path.{letter, well_formed, path_or_empty}
use Rattle.path.specs.Shape as defined
use Rattle.path.specs.declared.Progress.{Progress}

-- the code's shape
abbrev pub Shape : Type 0
Shape = Option Progress

unfoldable pub shape_is : Shape → defined.Shape
shape_is None = defined.dead
shape_is (Some p) = defined.partway p.components p.here p.bytes

-- a letter more
pub fed-on : (sh : Shape) (done here len b : ℕ) → sh ≡ Some (record { components = done; here = here; bytes = len }) → len < 64
    → (33 ≤ b) → (b ≤ 126) → (b ≡ 47 → ⊥) → here < 16
    → shape_is (Some (record { components = done; here = here + 1; bytes = len + 1 })) ≡ defined.fed (shape_is sh) b
unfolding shape_is defined.fed letter
fed-on sh done here len b e l g h k w =
    rw (e, lt-ltb len 64 l, ne_eqb b 0 (λ z. omega arith), le-leb 33 b g, le-leb b 126 h, ne_eqb b 47 k, lt-ltb here 16 w, add-one here, add-one len)

-- the loop
pub feed-step : (sh : defined.Shape) (s : List ℕ) (i : ℕ) (answer : defined.Shape) (r : defined.Shape) → i < length s → r ≡ defined.fed sh (get_or s i 0) → defined.feed sh (drop i s) ≡ answer → defined.feed r (drop (i + 1) s) ≡ answer
unfolding defined.feed
feed-step sh s i answer r h e inv =
    let w : defined.feed (defined.fed sh (get_or s i 0)) (drop (suc i) s) ≡ answer = rw (drop-cons s i 0 h) at inv in
    rw (add-one i, e) w

pub feed-end : (sh : defined.Shape) (s : List ℕ) (i : ℕ) (answer : defined.Shape) → length s ≤ i → defined.feed sh (drop i s) ≡ answer → sh ≡ answer
unfolding defined.feed
feed-end sh s i answer h inv = rw (drop_of_length-le s h) at inv

-- from no byte on it is the definition
pub path-is : (r : Bool) (p : List ℕ) → r ≡ defined.goes_on defined.fresh p → r ≡ well_formed p
unfolding defined.feed
path-is r p e = e ∙ defined.shape-is [] p

-- the empty path is one of no bytes, and no other has none
pub none-fed : (p : List ℕ) → length p ≡ 0 → true ≡ path_or_empty p
unfolding same
none-fed [] h = refl
none-fed (b ∷ p) h = absurd (omega arith)

pub some-fed : (r : Bool) (p : List ℕ) → (length p ≡ 0 → ⊥) → r ≡ well_formed p → r ≡ path_or_empty p
unfolding same
some-fed r [] h e = absurd (h refl)
some-fed r (b ∷ p) h e = e
