-- The loop of `end_by`: the end found from row t on, with the sum so far, is the end found from the start, whatever the weights are that `weigh` tells.
-- Relies on specs/Form/Chunk.
use Rattle.std.specs.Prelude.{ℕ, ◌<◌, ◌≤◌, ◌≡◌}
use Rattle.packed.specs.Form.Chunk.{end_of}
use Rattle.packed.proofs.rows.end_by.Given as goal

abbrev pub invariant-loop-t : goal.invariant-loop-t
invariant-loop-t g l =
    (l.sum ≤ 2000)
    × ((weight : ℕ → ℕ) → ((t w : ℕ) → t < l.m → goal.F-post g l.weigh t w → w ≡ weight t) → end_of weight l.m l.from l.used ≡ end_of weight l.m l.t l.sum)
