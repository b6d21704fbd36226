-- An answer as one word of 64 bits: the number in the low 32 bits and what stands beside it in the high 32. A law
-- that carries get's and next's contract from the Result to the word. Relies on image's numbers of the answers.
use Rattle.std.specs.Prelude.{ℕ, ◌/◌, ◌%◌, ◌<◌, ◌≤◌, ◌≡◌, refl, List, [], Result, Ok, Err}
use Rattle.image.specs.Prelude.{sym, ap₂, subst, ◌∙◌, arith}
use Rattle.image.specs.Image.{most_nodes}
use Rattle.image.specs.Calls.{Call, filled, number}
use Rattle.image.specs.Contract.{Meets, CheckMeets}
use Rattle.image.specs.Answers.{refusal_number, outcome_number, outcome_answer, found_answer, verdict_number, verdict_paths}
use Rattle.image.specs.declared.Refusal.{Refusal}
use Rattle.query.specs.Asked.{found_length}

-- the number of an answer; found_length is what stands beside it
unfoldable pub found_number : Result ℕ Refusal → ℕ
found_number (Ok n) = 0
found_number (Err r) = refusal_number r

-- a word that holds a number in its low 32 bits and another in its high 32
pub record Holds (w low high : ℕ) : Type 0 where
  pub low_is : w % 4294967296 ≡ low
  pub high_is : w / 4294967296 ≡ high

-- the contract of a call that answers by such a word
answer-is : (f : Result ℕ Refusal) (buffer : List ℕ) → found_answer f buffer ≡ filled (found_number f) (found_length f) buffer
unfolding found_answer found_number found_length
answer-is (Ok n) buffer = refl
answer-is (Err r) buffer = refl

pub word-meets : (s : List ℕ) (c : Call) (f : Result ℕ Refusal) (buffer : List ℕ) (w : ℕ) → Meets s c (found_answer f buffer) s []
    → Holds w (found_number f) (found_length f) → Meets s c (filled (w % 4294967296) (w / 4294967296) buffer) s []
word-meets s c f buffer w m e =
    subst (λ a. Meets s c a s []) (answer-is f buffer ∙ sym (ap₂ (λ k n. filled k n buffer) e.low_is e.high_is)) m

-- check answers by the same word: its number and its paths are those of such an answer
pub check-small : (v : Result ℕ Refusal) → verdict_paths v ≤ most_nodes → found_length v < 4294967296
unfolding found_length verdict_paths
check-small (Ok n) h = omega arith
check-small (Err r) h = omega arith

pub check-meets : (s : List ℕ) (v : Result ℕ Refusal) (w : ℕ) → CheckMeets s (verdict_number v) (verdict_paths v) → Holds w (found_number v) (found_length v)
    → CheckMeets s (w % 4294967296) (w / 4294967296)
unfolding found_number found_length verdict_number verdict_paths
check-meets s (Ok n) w m e = rw (e.low_is, e.high_is) m
check-meets s (Err r) w m e = rw (e.low_is, e.high_is) m

-- an outcome as its number
pub number-meets : (s : List ℕ) (c : Call) (o : Result (Unit {0}) Refusal) (k : ℕ) (s' w' : List ℕ) → Meets s c (outcome_answer o) s' w' → k ≡ outcome_number o → Meets s c (number k) s' w'
unfolding outcome_answer
number-meets s c o k s' w' m e = subst (λ j. Meets s c (number j) s' w') (sym e) m
