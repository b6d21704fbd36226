-- `questions::ask` meets its contract: one law of specs/Steps for each way out.
-- Assumes nothing.
use Rattle.std.proofs.Common.{ap, not}
use Rattle.image.specs.Prelude.{arith, sym, ◌∙◌, not-false}
use Rattle.questions.specs.Steps.{ragged-store, short-work, judged-store}
use Rattle.questions.proofs.ask.Goals as goal

pub returns-then-not-whole_nodes : goal.returns-then-not-whole_nodes
returns-then-not-whole_nodes c = ragged-store _ _ _ _ c.whole_nodes.ensures c.if-not-whole_nodes.true

pub returns-then-work-store : goal.returns-then-work-store
returns-then-work-store c = short-work _ _ _ (omega arith)

pub judge-requires : goal.judge-requires
judge-requires c = sym c.whole_nodes.ensures ∙ not-false _ (ap not c.if-not-whole_nodes.false)

pub returns : goal.returns
returns c = judged-store _ _ _ _ c.whole_nodes.ensures c.if-not-whole_nodes.false (omega arith) _ c.judge.ensures _ c.ok_or.ensures.value
