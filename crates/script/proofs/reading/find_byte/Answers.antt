-- `find_byte` meets its contract: the loop has passed i other bytes (specs/Find).
use Rattle.image.specs.Prelude.{arith}
use Rattle.script.specs.Find.{found_here, goes-on, found_none}
use Rattle.script.proofs.reading.find_byte.Goals as goal

pub loop-i-init : goal.loop-i-init
loop-i-init c = omega arith

pub returns-then-c-b : goal.returns-then-c-b
returns-then-c-b c = (found_here _ _ _ c.loop-i.invariant (omega arith) c.if-c-b.true, omega arith)

pub loop-i-preserved : goal.loop-i-preserved
loop-i-preserved c = goes-on _ _ _ c.loop-i.invariant (omega arith) c.if-c-b.false

pub returns : goal.returns
returns c = let e = found_none _ _ _ c.loop-i.invariant (omega arith) in (omega arith, omega arith)
