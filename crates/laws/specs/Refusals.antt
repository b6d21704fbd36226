-- No refusal is answered with 0, the number of acceptance, and none with more than 10.
-- Relies on image's numbers of the refusals.
use Rattle.std.specs.Prelude.{◌≤◌}
use Rattle.image.specs.Prelude.{arith}
use Rattle.image.specs.declared.Refusal.{Refusal}
use Rattle.image.specs.Answers.{refusal_number, refusal_limit}

pub refusal-some : (r : Refusal) → 1 ≤ refusal_number r
unfolding refusal_number
refusal-some Refusal.Length = omega arith
refusal-some Refusal.Unsound = omega arith
refusal-some Refusal.Malformed = omega arith
refusal-some Refusal.LongValue = omega arith
refusal-some Refusal.ShortBuffer = omega arith
refusal-some Refusal.NotInterior = omega arith
refusal-some Refusal.Nested = omega arith
refusal-some Refusal.Absent = omega arith
refusal-some Refusal.BecomesMalformed = omega arith
refusal-some Refusal.Full = omega arith

pub refusal-few : (r : Refusal) → refusal_number r ≤ refusal_limit
unfolding refusal_number
refusal-few Refusal.Length = omega arith
refusal-few Refusal.Unsound = omega arith
refusal-few Refusal.Malformed = omega arith
refusal-few Refusal.LongValue = omega arith
refusal-few Refusal.ShortBuffer = omega arith
refusal-few Refusal.NotInterior = omega arith
refusal-few Refusal.Nested = omega arith
refusal-few Refusal.Absent = omega arith
refusal-few Refusal.BecomesMalformed = omega arith
refusal-few Refusal.Full = omega arith
