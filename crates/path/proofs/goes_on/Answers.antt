-- `goes_on` meets its contract: a length, and then the loop over the bytes. Relies on specs/Reads.
use Rattle.path.specs.Reads.{goes-dead, goes-past, goes-long, goes-many, goes-wide, goes-reads}
use Rattle.image.specs.Prelude.{arith}
use Rattle.path.proofs.goes_on.Goals as goal
use Rattle.path.proofs.goes_on.Goals.{then-bytes-gt64-via-then-bytes-gt64, then-bytes-gt64-via-else-bytes-gt64+then-bytes-s, then-bytes-gt64-via-else-bytes-gt64+else-bytes-s+then-components-gt8, then-bytes-gt64-via-else-bytes-gt64+else-bytes-s+else-components-gt8+then-here-gt16}

pub returns-in_default : goal.returns-in_default
returns-in_default c = goes-dead c.args.sh c.args.s.now c.in_default.is

pub returns-then-bytes-gt64 : goal.returns-then-bytes-gt64
returns-then-bytes-gt64 c =
    elim c.then-bytes-gt64.branch [
      | then-bytes-gt64-via-then-bytes-gt64 w ↦ goes-past c.args.sh c.args.s.now _ _ _ c.in-Some.is (omega arith)
      | then-bytes-gt64-via-else-bytes-gt64+then-bytes-s w ↦ goes-long c.args.sh c.args.s.now _ _ _ c.in-Some.is (omega arith) (omega arith)
      | then-bytes-gt64-via-else-bytes-gt64+else-bytes-s+then-components-gt8 w ↦ goes-many c.args.sh c.args.s.now _ _ _ c.in-Some.is (omega arith) (omega arith) (omega arith)
      | then-bytes-gt64-via-else-bytes-gt64+else-bytes-s+else-components-gt8+then-here-gt16 w ↦ goes-wide c.args.sh c.args.s.now _ _ _ c.in-Some.is (omega arith) (omega arith) (omega arith)
    ]

pub returns : goal.returns
returns c = goes-reads c.args.sh c.args.s.now _ _ _ c.in-Some.is (omega arith) (omega arith) _ c.reads_on.ensures
