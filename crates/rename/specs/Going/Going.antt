-- What the questions of a move decide, as a function of both paths and the table; and what a caller of ask_later is told.
-- Relies on questions' Passed and on the paper's definitions.
use Rattle.std.specs.Prelude.{ℕ, ◌≡◌, List, true, false, not, cond, Err, Result, Ok}
use Rattle.image.specs.Bytes.{same}
use Rattle.image.specs.Path.{well_formed, may_move}
use Rattle.image.specs.Table.{Row, rows_below, moved, every_key}
use Rattle.image.specs.Sound.{table_of}
use Rattle.image.specs.Calls.{acts, move, is_empty}
use Rattle.image.specs.Contract.{first_no_on, Meets}
use Rattle.image.specs.Answers.{outcome_answer}
use Rattle.image.specs.declared.Refusal.{Refusal}
use Rattle.questions.specs.Acted.{Passed}
use Rattle.rename.specs.declared.going.Going.{Going}

-- the questions from 3 on
unfoldable pub going_of : List ℕ → List ℕ → List Row → Result Going Refusal
going_of from to t =
    cond (well_formed from)
    (cond (well_formed to)
    (cond (may_move from to)
    (cond (not (is_empty (rows_below from t)))
    (cond (every_key well_formed (moved from to t))
    (cond (same from to) (Ok Going.Stays) (Ok Going.Goes))
    (Err Refusal.BecomesMalformed))
    (Err Refusal.Absent))
    (Err Refusal.Nested))
    (Err Refusal.Malformed))
    (Err Refusal.Malformed)

-- a move that goes: accepted, of two paths that differ and that the swing may take
pub record Accepted (s w from to : List ℕ) : Type 0 where
  pub passed : Passed s w
  pub number : first_no_on s (acts (move from to) w) ≡ 0
  pub formed_from : well_formed from ≡ true
  pub formed_to : well_formed to ≡ true
  pub may : may_move from to ≡ true
  pub nine : every_key well_formed (moved from to (table_of s)) ≡ true

-- by the answer: the contract of a refused move; or that it is accepted
unfoldable pub AskedMove : List ℕ → List ℕ → List ℕ → List ℕ → Result Going Refusal → Type 0
AskedMove s w from to (Err r) = Meets s (acts (move from to) w) (outcome_answer (Err r)) s w
AskedMove s w from to (Ok Going.Stays) = Accepted s w from to × (from ≡ to)
AskedMove s w from to (Ok Going.Goes) = Accepted s w from to × (same from to ≡ false)
