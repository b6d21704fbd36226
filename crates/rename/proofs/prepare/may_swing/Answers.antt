-- `may_swing` meets its contract. Relies on specs/Prepare/Steps.
use Rattle.image.specs.Prelude.{arith}
use Rattle.rename.specs.Prepare.Steps.{swing-waits, swing-high, swing-room}
use Rattle.rename.proofs.prepare.may_swing.Goals as goal

pub returns-then-not-quiet : goal.returns-then-not-quiet
returns-then-not-quiet c = swing-waits _ _ _ c.if-not-quiet.true

pub returns-then-levels-gt7 : goal.returns-then-levels-gt7
returns-then-levels-gt7 c = swing-high _ _ _ c.if-not-quiet.false (omega arith)

pub returns : goal.returns
returns c = swing-room _ _ _ c.if-not-quiet.false (omega arith)
