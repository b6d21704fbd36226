-- Checks one after another: each starts from the marks of the one before it, and the counts add up.
-- Relies on Answer.
use Rattle.std.specs.Prelude.{ℕ, ◌≡◌, List, None, Some}
use Rattle.image.specs.Prelude.{sym, ap, ◌∙◌, Option, none, some}
use Rattle.laws.specs.Reading.Visit.{onward}
use Rattle.tree_check.specs.declared.Tally.{Tally}
use Rattle.tree_check.specs.Count.{Count, plus, capped, tally_sum}
use Rattle.tree_check.specs.CountLaws.{tally-joined, plus_assoc}
use Rattle.tree_check.specs.Answer.{Checked, Checks, unsound, all_sound, unsound-is, sound-is, tally-is}

stops : (x : Option (List ℕ)) (f : List ℕ → Option (List ℕ)) → x ≡ none → onward x f ≡ none
unfolding onward
stops x f e = rw e

goes : (x : Option (List ℕ)) (f : List ℕ → Option (List ℕ)) (a : List ℕ) → x ≡ some a → onward x f ≡ f a
unfolding onward
goes x f a e = rw e

-- Some of the checks are done: of the whole walk `answer` and the whole count Y, x and y are left, and the tally is of what was passed.
pub record Passed (answer : Option (List ℕ)) (Y : Count) (x : Option (List ℕ)) (y : Count) (total : Tally) : Type 0 where
  pub counted : Count
  pub tally : total ≡ capped counted
  pub counts : Y ≡ plus counted y
  pub walk : answer ≡ x

pub passed-as : (answer : Option (List ℕ)) (Y : Count) (x z : Option (List ℕ)) (y w : Count) (total : Tally) → x ≡ z → y ≡ w → Passed answer Y x y total → Passed answer Y z w total
passed-as answer Y x z y w total e f p = record { counted = p.counted; tally = p.tally; counts = p.counts ∙ ap (λ c. plus p.counted c) f; walk = p.walk ∙ e }

module _ (answer : Option (List ℕ)) (Y : Count) (x : Option (List ℕ)) (y : Count) (total : Tally) (p : Passed answer Y x y total) (r : Checked) (after : List ℕ) where
  -- the last check
  pub rest-stops : Checks x y r after → r ≡ None → (seen : List ℕ) → Checks answer Y None seen
  rest-stops h e seen = unsound answer Y seen (p.walk ∙ unsound-is x y r after h e)

  pub rest-done : Checks x y r after → (t w : Tally) → r ≡ Some t → w ≡ tally_sum total t → Checks answer Y (Some w) after
  rest-done h t w e j =
      all_sound answer Y w after (p.walk ∙ sound-is x y r t after h e)
      (tally-joined total t w p.counted y p.tally (tally-is x y r t after h e) j ∙ ap (λ c. capped c) (sym p.counts))

  -- one check more
  module _ (v : Option (List ℕ)) (f : List ℕ → Option (List ℕ)) (a z : Count) (ex : x ≡ onward v f) (ey : y ≡ plus a z) (h : Checks v a r after) where
    pub one-stops : r ≡ None → (seen : List ℕ) → Checks answer Y None seen
    one-stops e seen = unsound answer Y seen (p.walk ∙ ex ∙ stops v f (unsound-is v a r after h e))

    pub one-passed : (t w : Tally) → r ≡ Some t → w ≡ tally_sum total t → Passed answer Y (f after) z w
    one-passed t w e j =
        record {
          counted = plus p.counted a;
          tally = tally-joined total t w p.counted a p.tally (tally-is v a r t after h e) j;
          counts = p.counts ∙ ap (λ c. plus p.counted c) ey ∙ plus_assoc p.counted a z;
          walk = p.walk ∙ ex ∙ goes v f after (sound-is v a r t after h e);
        }
