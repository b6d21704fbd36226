-- `reads_on` meets its contract: what is left reads on as the whole does. Relies on specs/Reads.
use Rattle.path.specs.Reads.{reads-bad, reads-on, ended}
use Rattle.image.specs.Prelude.{arith}
use Rattle.path.proofs.Reading.reads_on.Goals as goal

pub returns-in_default : goal.returns-in_default
returns-in_default c = reads-bad c.args.s.now c.loop-b.b-index c.loop-b.read.components c.loop-b.read.here _ (omega arith) c.loop-b.invariant.2 _ c.past.ensures c.in_default.is

pub loop-b-preserved : goal.loop-b-preserved
loop-b-preserved c =
    let f = c.past.ensures.few _ c.in-Some.is in
    (omega arith, omega arith, reads-on c.args.s.now c.loop-b.b-index c.loop-b.read.components c.loop-b.read.here _ (omega arith) c.loop-b.invariant.2 _ c.past.ensures _ c.in-Some.is)

pub returns-in-1-to-8 : goal.returns-in-1-to-8
returns-in-1-to-8 c = grind (arith, ended c.args.s.now c.loop-b.b-index c.loop-b.read.components c.loop-b.read.here _ (omega arith) c.loop-b.invariant.2)

pub returns-in_default-matches : goal.returns-in_default-matches
returns-in_default-matches c = grind (arith, ended c.args.s.now c.loop-b.b-index c.loop-b.read.components c.loop-b.read.here _ (omega arith) c.loop-b.invariant.2)

pub returns-in_default-matches-2 : goal.returns-in_default-matches-2
returns-in_default-matches-2 c = grind (arith, ended c.args.s.now c.loop-b.b-index c.loop-b.read.components c.loop-b.read.here _ (omega arith) c.loop-b.invariant.2)

pub returns-in_default-matches-3 : goal.returns-in_default-matches-3
returns-in_default-matches-3 c = grind (arith, ended c.args.s.now c.loop-b.b-index c.loop-b.read.components c.loop-b.read.here _ (omega arith) c.loop-b.invariant.2)
