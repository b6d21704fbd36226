-- `script::answer_line` meets its contract: by the length and the first space (specs/Line). Assumes nothing.
use Rattle.std.specs.Prelude.{◌+◌, refl}
use Rattle.script.specs.Line.{line-long, line_word, line-rest}
use Rattle.script.specs.Answered.{says, bad-answered}
use Rattle.script.proofs.answer_line.Goals as goal

pub returns-then-line-gt255 : goal.returns-then-line-gt255
returns-then-line-gt255 c = says _ _ _ _ _ _ (line-long _ c.if-line-gt255.true) (bad-answered _ _ c.requires.0 _ _ _ c.put_bad.ensures)

pub returns-then-a-line : goal.returns-then-a-line
returns-then-a-line c = says _ _ _ _ _ _ (line_word _ c.if-line-gt255.false _ c.find_byte-a.ensures.0 c.if-a-line.true) c.answer_word.ensures

pub returns : goal.returns
returns c = says _ _ _ _ _ _ (line-rest _ c.if-line-gt255.false _ c.find_byte-a.ensures.0 c.if-a-line.false c.find_byte-a.ensures.1 (c.find_byte-a.result + 1) refl) c.answer_rest.ensures
