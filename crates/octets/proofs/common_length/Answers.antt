-- `common_length` meets its contract: its loop keeps an invariant. Relies on specs/Compare.
use Rattle.image.specs.Prelude.{arith, add-one}
use Rattle.octets.specs.Compare.{shared_step, shared-stop, shared-least}
use Rattle.octets.proofs.common_length.Goals as goal

pub returns-then-a-i : goal.returns-then-a-i
returns-then-a-i c = let A = c.args in
    (omega (arith, c.loop-i.invariant, shared-stop A.a.now A.b.now c.loop-i.i (omega arith) (omega arith) c.if-a-i.true), omega arith, omega arith)

pub loop-i-preserved : goal.loop-i-preserved
loop-i-preserved c = let A = c.args in
    let e = shared_step A.a.now A.b.now c.loop-i.i (omega arith) (omega arith) c.if-a-i.false in
    rw add-one (omega (arith, e, c.loop-i.invariant))

pub returns : goal.returns
returns c = let A = c.args in
    (omega (arith, c.loop-i.invariant, shared-least A.a.now A.b.now c.loop-i.i (omega (arith, c.min-shorter.ensures))), omega arith, omega arith)
