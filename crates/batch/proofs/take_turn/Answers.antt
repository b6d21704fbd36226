-- `batch::take_turn` meets its contract. Relies on specs/Steps.
use Rattle.batch.specs.Steps.{first-is, turn-none, turn-full, turn-narrow, turn-change, turn-query}
use Rattle.requests.specs.Pieces.{requests_left}
use Rattle.image.specs.Prelude.{arith}
use Rattle.batch.proofs.take_turn.Goals as goal

pub returns-in_err-change : goal.returns-in_err-change
returns-in_err-change c = rw c.from_residual.ensures (turn-none _ _ _ _ _ (requests_left c.next.new.self) c.in_err-change.ensures.steps.0)

pub returns-then-room-lt-ANSWER_HEAD : goal.returns-then-room-lt-ANSWER_HEAD
returns-then-room-lt-ANSWER_HEAD c = turn-full _ _ _ _ _ _ _ (first-is _ _ _ _ c.in_ok-change.ensures.steps c.in-Change.is) (omega arith)

pub returns-then-room-most_bytes : goal.returns-then-room-most_bytes
returns-then-room-most_bytes c = turn-narrow _ _ _ _ _ _ _ (first-is _ _ _ _ c.in_ok-change.ensures.steps c.in-Query.is) (omega (arith, c.most_bytes.ensures))

pub returns-else-room-lt-ANSWER_HEAD : goal.returns-else-room-lt-ANSWER_HEAD
returns-else-room-lt-ANSWER_HEAD c = turn-change _ _ _ _ _ _ _ (first-is _ _ _ _ c.in_ok-change.ensures.steps c.in-Change.is) (omega arith) _ _ _ _ _ c.make_change-outcome.ensures c.write_outcome.ensures

pub returns-else-room-most_bytes : goal.returns-else-room-most_bytes
returns-else-room-most_bytes c = turn-query _ _ _ _ _ _ _ (first-is _ _ _ _ c.in_ok-change.ensures.steps c.in-Query.is) (omega (arith, c.most_bytes.ensures)) _ _ c.answer_query.ensures
