-- `maintain::is_interior` meets its contract: each test against the marks and the kind of the node (specs/Interior).
-- Assumes nothing.
use Rattle.image.specs.Prelude.{arith}
use Rattle.rebuild.specs.RebuildSteps.{node-count}
use Rattle.maintain.specs.Interior.{past_end, unmarked, marked}
use Rattle.maintain.proofs.is_interior.Goals as goal

pub returns-then-store-node : goal.returns-then-store-node
returns-then-store-node c = past_end _ _ _ c.requires.0 c.requires.1 c.requires.2 (omega arith)

pub bounds-seen-node : goal.bounds-seen-node
bounds-seen-node c = let n = node-count _ c.requires.0 in omega (arith, n.2)

pub returns-then-seen-node-ne1 : goal.returns-then-seen-node-ne1
returns-then-seen-node-ne1 c = unmarked _ _ _ c.requires.0 c.requires.1 c.requires.2 (omega arith) (λ h. omega arith)

pub returns : goal.returns
returns c = marked _ _ _ c.requires.0 c.requires.1 c.requires.2 (omega arith) (omega arith) _ c.read_kind.ensures.0
