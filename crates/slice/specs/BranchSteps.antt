-- Step lemmas of an interior node's part: the entries of its children, one after the other. Relies on Point and Right.
use Rattle.std.specs.Prelude.{ℕ, ◌+◌, ◌≤◌, ◌≡◌, List, [], ◌∷◌, ◌++◌, true, false, length, drop}
use Rattle.image.specs.Prelude.{sym, ap, ◌∙◌, arith, length-append}
use Rattle.image.specs.Bytes.{before}
use Rattle.image.specs.Entry as defined
use Rattle.image.specs.Image as image
use Rattle.laws.specs.Encode.{bytes_of}
use Rattle.laws.specs.Reading.Relative.{branch_high}
use Rattle.node.specs.Search.Own.{branch}
use Rattle.node.specs.declared.branches.Branch.{Branch}
use Rattle.slice.specs.Point.{Point, point_of, before_line, Holds, Misses}
use Rattle.slice.specs.Right.{all_line, rest_of}

pub pushed-child : (i : ℕ) (k k' : List ℕ) → k' ≡ k → bytes_of (defined.child i k) ≡ bytes_of (defined.child i k')
pushed-child i k k' e = ap (λ l. bytes_of (defined.child i l)) (sym e)

-- what is left fits where the whole does
pub left-fits : (now rest old whole : List ℕ) → now ++ rest ≡ old ++ whole → length old + length whole ≤ 1016 → length now + length rest ≤ 1016
left-fits now rest old whole e h = let a = ap length e in let b = length-append now rest in let c = length-append old whole in omega arith

-- NO CHILD
module _ (d m : ℕ) (hi k : List ℕ) (ks : List image.Branch) (e : ks ≡ []) where
  pub all-none : all_line d ks ≡ []
  unfolding all_line
  all-none = rw e

  pub before-none : before_line d m ks hi k ≡ []
  unfolding before_line
  before-none = rw e

  pub misses-none : (n : ℕ) → Misses (point_of n ks hi k)
  unfolding point_of Misses
  misses-none n = rw e tt

  pub rest-none : rest_of ks hi k ≡ []
  unfolding rest_of
  rest-none = rw e

-- A CHILD, with its high pivot h
module _ (d m : ℕ) (hi k : List ℕ) (ks us : List image.Branch) (b : Branch) (e : ks ≡ branch b.number b.low.now ∷ us) where
  pub all-off : all_line d ks ≡ bytes_of (defined.child b.number (drop d b.low.now)) ++ all_line d us
  unfolding all_line
  all-off = rw e

  module _ (hi₁ : List ℕ) (ends₁ : b.high.now ≡ branch_high hi₁ us) (keeps : hi₁ ≡ hi) where
    ends : b.high.now ≡ branch_high hi us
    ends = ends₁ ∙ ap (λ x. branch_high x us) keeps

    test-is : before k b.high.now ≡ before k (branch_high hi us)
    test-is = ap (before k) ends

    -- that ends at the cut or before it
    module _ (f : false ≡ before k b.high.now) where
      past : before k (branch_high hi us) ≡ false
      past = sym test-is ∙ sym f

      pub before-past : before_line d m ks hi k ≡ bytes_of (defined.child b.number (drop d b.low.now)) ++ before_line d m us hi k
      unfolding before_line
      before-past = rw (e, past)

      pub point-past : (n : ℕ) → point_of (n + 1) us hi k ≡ point_of n ks hi k
      unfolding point_of
      point-past n = rw (e, past)

      pub rest-past : rest_of ks hi k ≡ rest_of us hi k
      unfolding rest_of
      rest-past = rw (e, past)

    module _ (t : true ≡ before k b.high.now) where
      within-end : before k (branch_high hi us) ≡ true
      within-end = sym test-is ∙ sym t

      -- that holds the cut
      module _ (g : true ≡ before b.low.now k) where
        pub before-held : before_line d m ks hi k ≡ bytes_of (defined.child m (drop d b.low.now))
        unfolding before_line
        before-held = rw (e, within-end, sym g)

        pub point-held : (n : ℕ) → Holds (point_of n ks hi k) b
        unfolding point_of
        point-held n = record { count = n; is = rw (e, within-end, sym g) (ap (Point.within n b.number b.low.now) (sym ends)) }

        pub rest-held : rest_of ks hi k ≡ us
        unfolding rest_of
        rest-held = rw (e, within-end, sym g)

      -- that starts at the cut or after it
      module _ (g : false ≡ before b.low.now k) where
        pub before-missed : before_line d m ks hi k ≡ []
        unfolding before_line
        before-missed = rw (e, within-end, sym g)

        pub point-missed : (n : ℕ) → Misses (point_of n ks hi k)
        unfolding point_of Misses
        point-missed n = rw (e, within-end, sym g) tt

        pub rest-missed : rest_of ks hi k ≡ ks
        unfolding rest_of
        rest-missed = rw (e, within-end, sym g)
