-- `script::finish` meets its contract: one law for each way out (specs/Input). Assumes nothing.
use Rattle.std.proofs.Common.{rules}
use Rattle.script.specs.Input.{nothing_left, line-left}
use Rattle.script.proofs.finish.Goals as goal

pub returns-then-len-eq0 : goal.returns-then-len-eq0
returns-then-len-eq0 c = search (rules, nothing_left)

pub returns : goal.returns
returns c = search (rules, line-left)
