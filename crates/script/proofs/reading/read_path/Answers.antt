-- `script::reading::read_path` meets its contract: one law for each way out (specs/Reading). Assumes nothing.
use Rattle.std.proofs.Common.{rules}
use Rattle.image.specs.Prelude.{arith}
use Rattle.script.specs.Reading.{empty-path, no-path, path-read, path-end}
use Rattle.script.proofs.reading.read_path.Goals as goal

pub returns-then-equal : goal.returns-then-equal
returns-then-equal c = empty-path _ _ c.equal.ensures _ c.if-equal.true

pub bounds-path-0 : goal.bounds-path-0
bounds-path-0 c = omega arith

pub returns-then-find_byte-text : goal.returns-then-find_byte-text
returns-then-find_byte-text c = search (rules, no-path)

pub bounds-path-end : goal.bounds-path-end
bounds-path-end c = omega (arith, path-end _ _ _ _ c.put_exchanged-end.ensures)

pub overflow_add-result : goal.overflow_add-result
overflow_add-result c = omega (arith, path-end _ _ _ _ c.put_exchanged-end.ensures)

pub returns : goal.returns
returns c = path-read _ _ c.equal.ensures c.if-equal.false _ _ c.find_byte.ensures.0 _ _ c.if-find_byte-text.false c.put_exchanged-end.ensures (omega (arith, path-end _ _ _ _ c.put_exchanged-end.ensures))
