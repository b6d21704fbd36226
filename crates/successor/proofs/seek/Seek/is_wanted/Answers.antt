-- `is_wanted` meets the contract: three tests, one law for each return (specs/Tests).
use Rattle.std.proofs.Common.{ap, not}
use Rattle.successor.specs.Tests.{wanted-early, wanted-apart, wanted-last}
use Rattle.successor.proofs.seek.Seek.is_wanted.Goals as goal

pub returns-then-not-precedes_joined : goal.returns-then-not-precedes_joined
returns-then-not-precedes_joined c = wanted-early _ _ _ _ _ c.precedes_joined.ensures (ap not c.if-not-precedes_joined.true)

pub returns-then-not-starts_joined : goal.returns-then-not-starts_joined
returns-then-not-starts_joined c = wanted-apart _ _ _ _ _ c.precedes_joined.ensures (ap not c.if-not-precedes_joined.false) _ c.starts_joined.ensures (ap not c.if-not-starts_joined.true)

pub returns : goal.returns
returns c = wanted-last _ _ _ _ _ c.precedes_joined.ensures (ap not c.if-not-precedes_joined.false) _ c.starts_joined.ensures (ap not c.if-not-starts_joined.false) _ c.is_better.ensures
