-- The rows below a path, as next tells of them: whether there are any, and whether all pass a test.
-- Relies on laws/specs/Formed (every row follows the empty path).
use Rattle.std.specs.Prelude.{ℕ, ◌≡◌, refl, List, [], ◌∷◌, Bool, true, false, not}
use Rattle.image.specs.Prelude.{sym, ap, ◌∙◌, none, some, arith, cases}
use Rattle.image.specs.Path.{below, well_formed}
use Rattle.image.specs.Table.{Row, every_key, rows_below, first_key, least_after, rising}
use Rattle.image.specs.Calls.{is_empty}
use Rattle.laws.specs.Filter.{keep}
use Rattle.laws.specs.Formed.{all-follow}

first-empty : (k : List ℕ) → first_key [] ≡ some k → ⊥
unfolding first_key
first-empty k z = let o : ◌≡◌ {A = ℕ} 0 1 = cc in omega arith

first-none : (r : Row) (u : List Row) → first_key (r ∷ u) ≡ none → ⊥
unfolding first_key
first-none r u z = let o : ◌≡◌ {A = ℕ} 0 1 = cc in omega arith

-- QUESTION 8
pub none_below : (p : List ℕ) (t : List Row) → every_key well_formed t ≡ true → rising t ≡ true → least_after p [] t ≡ none → is_empty (rows_below p t) ≡ true
unfolding least_after
none_below p t e f h = empty (rows_below p t) (ap first_key (sym (all-follow p t e f)) ∙ h)
  where
    empty : (u : List Row) → first_key u ≡ none → is_empty u ≡ true
    empty [] z = unfold is_empty in refl
    empty (r ∷ u) z = absurd (first-none r u z)

pub some_below : (p k : List ℕ) (t : List Row) → every_key well_formed t ≡ true → rising t ≡ true → least_after p [] t ≡ some k → is_empty (rows_below p t) ≡ false
unfolding least_after
some_below p k t e f h = full (rows_below p t) (ap first_key (sym (all-follow p t e f)) ∙ h)
  where
    full : (u : List Row) → first_key u ≡ some k → is_empty u ≡ false
    full [] z = absurd (first-empty k z)
    full (r ∷ u) z = unfold is_empty in refl

-- QUESTION 9: every row below p passes a test where, of the rows that fail it, none is below p
pub none-fails : (test : List ℕ → Bool) (p : List ℕ) (t : List Row) → is_empty (rows_below p (keep (λ k. not (test k)) t)) ≡ every_key test (rows_below p t)
unfolding rows_below keep every_key is_empty
none-fails test p [] = refl
none-fails test p (r ∷ t) =
    cases (test r.key) (λ e. cases (below r.key p) (λ f. rw (e, f, e) (none-fails test p t)) (λ f. rw (e, f) (none-fails test p t)))
    (λ e. cases (below r.key p) (λ f. rw (e, f, e)) (λ f. rw (e, f) (none-fails test p t)))
