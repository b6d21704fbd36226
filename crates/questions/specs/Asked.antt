-- What questions 1 and 2 leave, by the answer, and what a caller reads off it.
-- Relies on tree_check's Callers (Established: what a yes says of the image) and on questions' Callers (Lent: the call is lent the work area).
use Rattle.std.specs.Prelude.{ℕ, ◌*◌, ◌≤◌, ◌≡◌, List, true, length, Result, Ok, Err, IsErrAnd}
use Rattle.std.proofs.lemmas.Result.{err_from_is_err_and}
use Rattle.image.specs.Image.{nodes_of, whole_nodes}
use Rattle.image.specs.Sound.{sound}
use Rattle.image.specs.Calls.{Call, work_per_node}
use Rattle.image.specs.Contract.{first_no_on, Meets}
use Rattle.image.specs.Answers.{refusal_number, outcome_answer}
use Rattle.image.specs.declared.Refusal.{Refusal}
use Rattle.tree_check.specs.declared.Tally.{Tally}
use Rattle.tree_check.specs.Callers.{Established}
use Rattle.questions.specs.Callers.{Lent, act-refused}

-- both are a yes: the later questions may be asked of the store s and the work area w
pub record Fit (s w : List ℕ) (t : Tally) (seen : List ℕ) : Type 0 where
  pub whole : whole_nodes (length s) ≡ true
  pub long : work_per_node * nodes_of (length s) ≤ length w
  pub is_sound : sound s ≡ true
  pub holds : Established s t seen

unfoldable pub Asked : List ℕ → List ℕ → List ℕ → Result Tally Refusal → Type 0
Asked s w seen (Ok t) = Fit s w t seen
Asked s w seen (Err q) = (c : Call) → Lent c w → first_no_on s c ≡ refusal_number q

-- FOR CALLERS
module _ (s w seen : List ℕ) where
  pub asked-fit : (t : Tally) → Asked s w seen (Ok t) → Fit s w t seen
  unfolding Asked
  asked-fit t a = a

  pub asked-refused : (q : Refusal) → Asked s w seen (Err q) → (c : Call) → Lent c w → first_no_on s c ≡ refusal_number q
  unfolding Asked
  asked-refused q a = a

  -- a call that hands the refusal on changes neither the store nor the work area
  pub refused-meets : (q : Refusal) → Asked s w seen (Err q) → (r : Result (Unit {0}) Refusal) → IsErrAnd r (λ y. y ≡ q) → (c : Call) → Lent c w
      → Meets s c (outcome_answer r) s w
  refused-meets q a r h c l = let p = err_from_is_err_and r h in rw (p.1, p.2) (act-refused s q l (asked-refused q a c l))
