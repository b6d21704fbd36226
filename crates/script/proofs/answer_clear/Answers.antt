-- `script::answer_clear` meets its contract: the call's contract, as the text of a line (specs/Steps). Assumes nothing.
use Rattle.script.specs.Steps.{clear-answered}
use Rattle.script.proofs.answer_clear.Goals as goal

pub returns : goal.returns
returns c = clear-answered _ _ c.requires.0 _ _ _ c.read_path-n.ensures _ c.requires.1 _ _ _ _ _ _ c.put_outcome.ensures c.clear-outcome.ensures
