-- The code's calls answer a Result, whose error is the question that got a no (src/lib.rt). Here each answer gets the paper's number, and what
-- stands beside it. Contracts speak of an answer only through these definitions.
use Rattle.std.specs.Prelude.{ℕ, List, Bool, cond, Result, Ok, Err}
use Rattle.image.specs.Calls.{Answer, number, filled}
use Rattle.image.specs.declared.Refusal.{Refusal}

-- the number of the question that got a no
unfoldable pub refusal_number : Refusal → ℕ
refusal_number Refusal.Length = 1
refusal_number Refusal.Unsound = 2
refusal_number Refusal.Malformed = 3
refusal_number Refusal.LongValue = 4
refusal_number Refusal.ShortBuffer = 5
refusal_number Refusal.NotInterior = 6
refusal_number Refusal.Nested = 7
refusal_number Refusal.Absent = 8
refusal_number Refusal.BecomesMalformed = 9
refusal_number Refusal.Full = 10

-- the highest of these numbers
abbrev pub refusal_limit : ℕ
refusal_limit = 10

-- "Accepted calls give 0 in its place"
unfoldable pub outcome_number : Result (Unit {0}) Refusal → ℕ
outcome_number (Ok u) = 0
outcome_number (Err r) = refusal_number r

-- put, drop, clear, move and upkeep answer the number alone
unfoldable pub outcome_answer : Result (Unit {0}) Refusal → Answer
outcome_answer o = number (outcome_number o)

-- get and next: "a length .. stands beside it", 0 in a refusal; with the whole buffer after the call
unfoldable pub found_answer : Result ℕ Refusal → List ℕ → Answer
found_answer (Ok n) buffer = filled 0 n buffer
found_answer (Err r) buffer = filled (refusal_number r) 0 buffer

-- same: the number, and "1 or 0" beside it, 0 in a refusal
unfoldable pub sameness_number : Result Bool Refusal → ℕ
sameness_number (Ok b) = 0
sameness_number (Err r) = refusal_number r

unfoldable pub sameness_verdict : Result Bool Refusal → ℕ
sameness_verdict (Ok b) = cond b 1 0
sameness_verdict (Err r) = 0

-- check: the number, and how many paths there are beside it, 0 in a refusal
unfoldable pub verdict_number : Result ℕ Refusal → ℕ
verdict_number (Ok n) = 0
verdict_number (Err r) = refusal_number r

unfoldable pub verdict_paths : Result ℕ Refusal → ℕ
verdict_paths (Ok n) = n
verdict_paths (Err r) = 0
