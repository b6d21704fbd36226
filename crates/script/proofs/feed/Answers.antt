-- `script::feed` meets its contract: one law for each way out (specs/Input). Assumes nothing.
use Rattle.std.proofs.Common.{rules}
use Rattle.script.specs.Input.{fed-line, fed-kept, fed-lost}
use Rattle.script.proofs.feed.Goals as goal

pub returns-then-byte-eq10 : goal.returns-then-byte-eq10
returns-then-byte-eq10 c = search (rules, fed-line)

pub returns-then-len-lt256 : goal.returns-then-len-lt256
returns-then-len-lt256 c = search (rules, fed-kept)

pub returns : goal.returns
returns c = search (rules, fed-lost)
