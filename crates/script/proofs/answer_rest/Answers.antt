-- `script::answer_rest` meets its contract: by the number of fields (specs/Line). Assumes nothing.
use Rattle.std.specs.Prelude.{◌+◌, refl}
use Rattle.script.specs.Line.{rest-path, rest-many, rest-two}
use Rattle.script.specs.Answered.{answered-as, bad-answered}
use Rattle.script.proofs.answer_rest.Goals as goal

pub returns-then-a-rest : goal.returns-then-a-rest
returns-then-a-rest c = answered-as _ _ _ _ _ _ (rest-path _ _ _ c.find_byte-a.ensures.0 c.if-a-rest.true) c.answer_path.ensures

pub returns-then-find_byte-second : goal.returns-then-find_byte-second
returns-then-find_byte-second c = answered-as _ _ _ _ _ _ (rest-many _ _ _ c.find_byte-a.ensures.0 c.if-a-rest.false c.find_byte-a.ensures.1 (c.find_byte-a.result + 1) refl _ c.find_byte.ensures.0 c.if-find_byte-second.true) (bad-answered _ _ c.requires.0 _ _ _ c.put_bad.ensures)

pub returns : goal.returns
returns c = answered-as _ _ _ _ _ _ (rest-two _ _ _ c.find_byte-a.ensures.0 c.if-a-rest.false c.find_byte-a.ensures.1 (c.find_byte-a.result + 1) refl _ c.find_byte.ensures.0 c.if-find_byte-second.false c.find_byte.ensures.1) c.answer_two.ensures
