-- The tests on a path or a range, one law for each return.
-- Relies on: better and wanted of laws/specs/Reading/Seek, far_from of laws/specs/Reading/Far, the shape of a path fed in parts (path/specs/Shape).
use Rattle.std.specs.Prelude.{ℕ, ◌-◌, ◌<◌, ◌≤◌, ◌+◌, ◌≡◌, refl, List, ◌++◌, Bool, true, false, ◌&&◌, ◌||◌, not, length, take, drop, None}
use Rattle.image.specs.Prelude.{sym, ap, ◌∙◌, Option, arith, drop-append-le, drop-append-add, not-true, not-false}
use Rattle.image.specs.Bytes.{before, begins}
use Rattle.path.specs.Shape.{feed, closed, goes_on, feed-append}
use Rattle.path.specs.Fed.{Shape, shape_is}
use Rattle.path.specs.Reads.{goes-dead}
use Rattle.laws.specs.Reading.Far.{far_from}
use Rattle.laws.specs.Reading.Seek.{better, wanted}
use Rattle.lookup.specs.Look.{part-rest}
use Rattle.successor.specs.Walk.{unfit}

-- three tests, and four, of which some are known
three-false : (x y z : Bool) → x ≡ false → false ≡ x && y && z
three-false x y z e = rw e

three-second : (x y z : Bool) → y ≡ false → false ≡ x && y && z
three-second true y z e = rw e
three-second false y z e = refl

three-last : (x y z : Bool) → x ≡ true → y ≡ true → z ≡ x && y && z
three-last x y z e f = rw (e, f)

module _ (below after k : List ℕ) (best : Option (List ℕ)) (q : Bool) (eq : q ≡ before after k) where
  pub wanted-early : not q ≡ true → false ≡ wanted below after best k
  unfolding wanted
  wanted-early h = three-second (begins below k) (before after k) (better best k) (sym eq ∙ not-true q h)

  module _ (late : not q ≡ false) (p : Bool) (ep : p ≡ begins below k) where
    pub wanted-apart : not p ≡ true → false ≡ wanted below after best k
    unfolding wanted
    wanted-apart h = three-false (begins below k) (before after k) (better best k) (sym ep ∙ not-true p h)

    pub wanted-last : not p ≡ false → (r : Bool) → r ≡ better best k → r ≡ wanted below after best k
    unfolding wanted
    wanted-last h r e = e ∙ three-last (begins below k) (before after k) (better best k) (sym ep ∙ not-false p h) (sym eq ∙ not-false q late)

-- the rest after `below` of a path in two parts, a and b
module _ (sh : Shape) (below a b : List ℕ) where
  pub unfit-dead : sh ≡ None → true ≡ unfit (shape_is sh) below (a ++ b)
  unfolding unfit
  unfit-dead e = ap not (goes-dead sh (drop (length below) (a ++ b)) e)

  -- it begins in a
  pub unfit-first : length below ≤ length a → (front : Shape) → shape_is front ≡ feed (shape_is sh) (take (length a - length below) (drop (length below) a))
      → (r : Bool) → r ≡ goes_on (shape_is front) b → not r ≡ unfit (shape_is sh) below (a ++ b)
  unfolding unfit goes_on
  unfit-first h front ef r er =
      ap not
      (er ∙ ap (λ z. closed (feed z b)) (ef ∙ ap (feed (shape_is sh)) (part-rest (length below) a))
      ∙ ap closed (sym (feed-append (shape_is sh) (drop (length below) a) b) ∙ ap (feed (shape_is sh)) (sym (drop-append-le (length below) a b h))))

  -- it begins in b
  pub unfit-second : length a < length below → (r : Bool) → r ≡ goes_on (shape_is sh) (take (length b - (length below - length a)) (drop (length below - length a) b))
      → not r ≡ unfit (shape_is sh) below (a ++ b)
  unfolding unfit
  unfit-second h r er =
      let z : length a + (length below - length a) ≡ length below = omega arith in
      ap not
      (er
      ∙ ap (goes_on (shape_is sh))
      (part-rest (length below - length a) b ∙ sym (drop-append-add a b (length below - length a)) ∙ ap (λ n. drop n (a ++ b)) z))

four-1 : (x y z w : Bool) → x ≡ true → true ≡ x || y || z || w
four-1 x y z w e = rw e

four-2 : (x y z w : Bool) → y ≡ true → true ≡ x || y || z || w
four-2 true y z w e = refl
four-2 false y z w e = rw e

four-4 : (x y z w : Bool) → w ≡ true → true ≡ x || y || z || w
four-4 true y z w e = refl
four-4 false true z w e = refl
four-4 false false true w e = refl
four-4 false false false w e = sym e

four-3 : (x y z w : Bool) → x ≡ false → y ≡ false → w ≡ false → z ≡ x || y || z || w
four-3 x y true w a b c = rw (a, b)
four-3 x y false w a b c = rw (a, b) (sym c)

and_first : (x y : Bool) → x ≡ false → false ≡ x && y
and_first x y e = rw e

module _ (below after lo hi : List ℕ) (best : Option (List ℕ)) (q : Bool) (eq : q ≡ before after hi) where
  pub far-early : not q ≡ true → true ≡ far_from below after lo hi best
  unfolding far_from
  far-early h = four-2 (not (before below hi)) (not (before after hi)) (before below lo && not (begins below lo)) (not (better best lo)) (ap (λ b. not b) (sym eq) ∙ h)

  module _ (late : not q ≡ false) (b : Bool) (eb : b ≡ better best lo) where
    pub far-late : not b ≡ true → true ≡ far_from below after lo hi best
    unfolding far_from
    far-late h = four-4 (not (before below hi)) (not (before after hi)) (before below lo && not (begins below lo)) (not (better best lo)) (ap (λ b. not b) (sym eb) ∙ h)

    module _ (good : not b ≡ false) (p : Bool) (ep : p ≡ before below hi) where
      pub far-under : not p ≡ true → true ≡ far_from below after lo hi best
      unfolding far_from
      far-under h = four-1 (not (before below hi)) (not (before after hi)) (before below lo && not (begins below lo)) (not (better best lo)) (ap (λ b. not b) (sym ep) ∙ h)

      module _ (over : not p ≡ false) (l : Bool) (el : l ≡ before below lo) where
        third : before below lo && not (begins below lo) ≡ far_from below after lo hi best
        unfolding far_from
        third =
            four-3 (not (before below hi)) (not (before after hi)) (before below lo && not (begins below lo)) (not (better best lo))
            (ap (λ b. not b) (sym ep) ∙ over) (ap (λ b. not b) (sym eq) ∙ late) (ap (λ b. not b) (sym eb) ∙ good)

        pub far-inside : not l ≡ true → false ≡ far_from below after lo hi best
        far-inside h = and_first (before below lo) (not (begins below lo)) (sym el ∙ not-true l h) ∙ third

        pub far-past : not l ≡ false → (t : Bool) → t ≡ begins below lo → not t ≡ far_from below after lo hi best
        far-past h t et = ap (λ b. not b) et ∙ past (before below lo) (not (begins below lo)) (sym el ∙ not-false l h) ∙ third
          where
            past : (x y : Bool) → x ≡ true → y ≡ x && y
            past x y e = rw e
