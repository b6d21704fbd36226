-- `script::answer_two` meets its contract: one law for each word (specs/Steps). Assumes nothing.
use Rattle.std.specs.Prelude.{[]}
use Rattle.script.specs.Steps.{two-first-empty, two-second-empty, two-put, two-move, two-bad}
use Rattle.script.proofs.answer_two.Goals as goal

pub returns-then-first-eq0 : goal.returns-then-first-eq0
returns-then-first-eq0 c = two-first-empty _ _ c.requires.0 _ _ _ [] _ _ c.if-first-eq0.true _ c.put_bad.ensures

pub returns-then-second-eq0 : goal.returns-then-second-eq0
returns-then-second-eq0 c = two-second-empty _ _ c.requires.0 _ _ _ [] _ _ c.if-first-eq0.false c.if-second-eq0.true _ c.put_bad-then-second-eq0.ensures

pub returns-then-equal : goal.returns-then-equal
returns-then-equal c = two-put _ _ c.requires.0 _ _ _ _ _ _ c.if-first-eq0.false c.if-second-eq0.false _ c.equal.ensures c.if-equal.true c.answer_put.ensures

pub returns-then-equal-2 : goal.returns-then-equal-2
returns-then-equal-2 c = two-move _ _ c.requires.0 _ _ _ _ _ _ c.if-first-eq0.false c.if-second-eq0.false _ c.equal.ensures c.if-equal.false _ c.equal-2.ensures c.if-equal-2.true c.answer_move.ensures

pub returns : goal.returns
returns c = two-bad _ _ c.requires.0 _ _ _ [] _ _ c.if-first-eq0.false c.if-second-eq0.false _ c.equal.ensures c.if-equal.false _ c.equal-2.ensures c.if-equal-2.false _ c.put_bad-2.ensures
