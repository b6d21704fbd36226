-- `script::answer_word` meets its contract: one law for each word (specs/Steps). Assumes nothing.
use Rattle.std.specs.Prelude.{[]}
use Rattle.script.specs.Steps.{word-settle, word-tidy, word-bad}
use Rattle.script.specs.Answered.{act-answered}
use Rattle.script.proofs.answer_word.Goals as goal

pub returns-then-equal : goal.returns-then-equal
returns-then-equal c = word-settle _ _ c.requires.0 _ _ _ _ _ c.equal.ensures c.if-equal.true (act-answered _ _ c.requires.0 _ _ _ _ _ _ _ _ c.requires.1 c.settle-outcome.ensures c.put_outcome.ensures)

pub returns-then-equal-2 : goal.returns-then-equal-2
returns-then-equal-2 c = word-tidy _ _ c.requires.0 _ _ _ _ _ c.equal.ensures c.if-equal.false _ c.equal-2.ensures c.if-equal-2.true (act-answered _ _ c.requires.0 _ _ _ _ _ _ _ _ c.requires.1 c.tidy-outcome.ensures c.put_outcome-then-equal-2.ensures)

pub returns : goal.returns
returns c = word-bad _ _ c.requires.0 _ _ _ [] _ c.equal.ensures c.if-equal.false _ c.equal-2.ensures c.if-equal-2.false _ c.put_bad.ensures
