-- `script::answer_path` meets its contract: one law for each word (specs/Steps). Assumes nothing.
use Rattle.std.specs.Prelude.{[]}
use Rattle.script.specs.Steps.{path_empty, path-drop, path-clear, path-get, path-list, path-bad}
use Rattle.script.proofs.answer_path.Goals as goal

pub returns-then-text-eq0 : goal.returns-then-text-eq0
returns-then-text-eq0 c = path_empty _ _ c.requires.0 _ _ _ [] _ c.if-text-eq0.true _ c.put_bad.ensures

pub returns-then-equal : goal.returns-then-equal
returns-then-equal c = path-drop _ _ c.requires.0 _ _ _ _ _ c.if-text-eq0.false _ c.equal.ensures c.if-equal.true c.answer_drop.ensures

pub returns-then-equal-2 : goal.returns-then-equal-2
returns-then-equal-2 c = path-clear _ _ c.requires.0 _ _ _ _ _ c.if-text-eq0.false _ c.equal.ensures c.if-equal.false _ c.equal-2.ensures c.if-equal-2.true c.answer_clear.ensures

pub returns-then-equal-3 : goal.returns-then-equal-3
returns-then-equal-3 c = path-get _ _ c.requires.0 _ _ _ [] _ c.if-text-eq0.false _ c.equal.ensures c.if-equal.false _ c.equal-2.ensures c.if-equal-2.false _ c.equal-3.ensures c.if-equal-3.true c.answer_get.ensures

pub returns-then-equal-4 : goal.returns-then-equal-4
returns-then-equal-4 c = path-list _ _ c.requires.0 _ _ _ [] _ c.if-text-eq0.false _ c.equal.ensures c.if-equal.false _ c.equal-2.ensures c.if-equal-2.false _ c.equal-3.ensures c.if-equal-3.false _ c.equal-4.ensures c.if-equal-4.true c.answer_list.ensures

pub returns : goal.returns
returns c = path-bad _ _ c.requires.0 _ _ _ [] _ c.if-text-eq0.false _ c.equal.ensures c.if-equal.false _ c.equal-2.ensures c.if-equal-2.false _ c.equal-3.ensures c.if-equal-3.false _ c.equal-4.ensures c.if-equal-4.false _ c.put_bad-2.ensures
