-- `script::writing::show_digit` meets its contract: by the test on the digit. Assumes nothing.
use Rattle.image.specs.Prelude.{lt-ltb, le-ltb}
use Rattle.image.specs.Program.{digit_text}
use Rattle.script.proofs.writing.show_digit.Goals as goal

pub returns-then-d-lt10 : goal.returns-then-d-lt10
unfolding digit_text
returns-then-d-lt10 c = search (lt-ltb, le-ltb)

pub returns : goal.returns
unfolding digit_text
returns c = search (lt-ltb, le-ltb)
