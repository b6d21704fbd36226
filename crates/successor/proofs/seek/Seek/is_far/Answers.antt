-- `is_far` meets the contract: four tests, one law for each return (specs/Tests).
use Rattle.std.proofs.Common.{ap, not}
use Rattle.successor.specs.Tests.{far-early, far-late, far-under, far-inside, far-past}
use Rattle.successor.proofs.seek.Seek.is_far.Goals as goal

pub returns-then-not-precedes_joined : goal.returns-then-not-precedes_joined
returns-then-not-precedes_joined c = far-early _ _ _ _ _ _ c.precedes_joined.ensures (ap not c.if-not-precedes_joined.true)

pub returns-then-not-is_better : goal.returns-then-not-is_better
returns-then-not-is_better c = far-late _ _ _ _ _ _ c.precedes_joined.ensures (ap not c.if-not-precedes_joined.false) _ c.is_better.ensures (ap not c.if-not-is_better.true)

pub returns-then-not-precedes_joined-2 : goal.returns-then-not-precedes_joined-2
returns-then-not-precedes_joined-2 c = far-under _ _ _ _ _ _ c.precedes_joined.ensures (ap not c.if-not-precedes_joined.false) _ c.is_better.ensures (ap not c.if-not-is_better.false) _ c.precedes_joined-2.ensures (ap not c.if-not-precedes_joined-2.true)

pub returns-then-not-precedes_joined-3 : goal.returns-then-not-precedes_joined-3
returns-then-not-precedes_joined-3 c = far-inside _ _ _ _ _ _ c.precedes_joined.ensures (ap not c.if-not-precedes_joined.false) _ c.is_better.ensures (ap not c.if-not-is_better.false) _ c.precedes_joined-2.ensures (ap not c.if-not-precedes_joined-2.false) _ c.precedes_joined-3.ensures (ap not c.if-not-precedes_joined-3.true)

pub returns : goal.returns
returns c = far-past _ _ _ _ _ _ c.precedes_joined.ensures (ap not c.if-not-precedes_joined.false) _ c.is_better.ensures (ap not c.if-not-is_better.false) _ c.precedes_joined-2.ensures (ap not c.if-not-precedes_joined-2.false) _ c.precedes_joined-3.ensures (ap not c.if-not-precedes_joined-3.false) _ c.starts_joined.ensures
