-- `script::answer_get` meets its contract: the call's contract, as the text of a line (specs/Steps, specs/Answered). Assumes nothing.
use Rattle.std.proofs.Common.{rules}
use Rattle.image.specs.Prelude.{arith}
use Rattle.script.specs.Steps.{get-found}
use Rattle.script.specs.Answered.{get-short}
use Rattle.image.specs.Program.{value_buffer}
use Rattle.script.proofs.answer_get.Goals as goal

pub put_found-requires : goal.put_found-requires
put_found-requires c = (get-short _ _ c.requires.0 _ _ _ _ c.get-found.ensures.meets, search rules, omega (arith, c.requires.0.page))

pub returns : goal.returns
unfolding value_buffer
returns c = get-found _ _ c.requires.0 _ _ _ c.read_path-n.ensures _ _ c.get-found.ensures.meets _ _ _ c.put_found.ensures
