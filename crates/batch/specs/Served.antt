-- What a batch keeps from turn to turn, and what each part of it promises.
-- Relies on image's Batch (requests, answers, the contract) and on questions (1 and 2 are a yes).
use Rattle.std.specs.Prelude.{ℕ, ◌+◌, ◌-◌, ◌≤◌, ◌≡◌, List, [], ◌∷◌, ◌++◌, length, Result, Some, None}
use Rattle.std.specs.Prelude as std
use Rattle.image.specs.Image.{nodes_of}
use Rattle.image.specs.Calls.{Answer}
use Rattle.image.specs.Contract.{Meets, Run}
use Rattle.image.specs.Answers.{outcome_answer}
use Rattle.image.specs.Batch.{Request, requests_of, call_of, calls_of, answer_bytes, answers_bytes, most_bytes, Stopped, HadRoom, zeroed, BatchRuns}
use Rattle.image.specs.declared.Refusal.{Refusal}
use Rattle.octets.specs.Put.{put}
use Rattle.questions.specs.Acted.{Passed}
use Rattle.batch.specs.declared.Batched.{Batched}

-- questions 1 and 2 are a yes, and the work area is zero where a call may use it
pub record Fresh (s w : List ℕ) : Type 0 where
  pub passed : Passed s w
  pub zero_area : w ≡ zeroed (nodes_of (length s)) w

-- a change made: its contract, and the work area as it was
pub record Served (s w : List ℕ) (q : Request) (r : Result (Unit {0}) Refusal) (s' w' : List ℕ) : Type 0 where
  pub met : Meets s (call_of w q) (outcome_answer r) s' w
  pub area : w' ≡ w

-- a query answered: its contract, with any work area, and its answer written at a place, up to another
pub record Written (s : List ℕ) (q : Request) (out : List ℕ) (at : ℕ) (out' : List ℕ) (end : ℕ) : Type 0 where
  pub given : Answer
  pub met : (w : List ℕ) → Meets s (call_of w q) given s []
  pub bytes : out' ≡ put out at (answer_bytes given)
  pub ends : end ≡ at + length (answer_bytes given)
  pub fits : end ≤ length out

-- a turn that goes on: the call of the first request left was made
pub record Goes (s w : List ℕ) (left : List Request) (out : List ℕ) (written : ℕ) (s' w' : List ℕ) (left' : List Request) (out' : List ℕ) (written' : ℕ) : Type 0 where
  pub request : Request
  pub given : Answer
  pub area : List ℕ
  pub first : left ≡ request ∷ left'
  pub met : Meets s (call_of w request) given s' area
  pub kept : w' ≡ w
  pub had_room : most_bytes request ≤ length out - written
  pub bytes : out' ≡ put out written (answer_bytes given)
  pub ends : written' ≡ written + length (answer_bytes given)
  pub fits : written' ≤ length out

-- a turn that stops: nothing is left, or its answer might not fit
abbrev pub Turned : List ℕ → List ℕ → List Request → List ℕ → ℕ → List ℕ → List ℕ → List Request → List ℕ → std.Option ℕ → Type 0
Turned s w left out written s' w' left' out' None = (s' ≡ s) × (w' ≡ w) × (out' ≡ out) × Stopped left (length out - written)
Turned s w left out written s' w' left' out' (Some behind) = Goes s w left out written s' w' left' out' behind

-- the turns so far: the requests in front of those left are a run of calls, whose answers stand in front
pub record SoFar (s₀ w₀ calls out₀ s w out : List ℕ) (left : List Request) (done written : ℕ) : Type 0 where
  pub before : List Request
  pub given : List Answer
  pub split : requests_of calls ≡ before ++ left
  pub count : length before ≡ done
  pub run : Run s₀ (calls_of w₀ before) given s
  pub fresh : Fresh s w₀
  pub area : w ≡ w₀
  pub size : length s ≡ length s₀
  pub bytes : out ≡ put out₀ 0 (answers_bytes given)
  pub length_is : written ≡ length (answers_bytes given)
  pub fits : written ≤ length out₀
  pub had_room : HadRoom before given (length out₀)

-- a batch whose work area is zero already
unfoldable pub Batching : List ℕ → List ℕ → List ℕ → List ℕ → Batched → List ℕ → List ℕ → List ℕ → Type 0
Batching s w calls out r s' w' out' = (r.number ≡ 0) × BatchRuns s w (requests_of calls) out r.done r.written s' w' out'
