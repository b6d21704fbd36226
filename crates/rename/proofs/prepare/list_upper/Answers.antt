-- `list_upper` meets its contract: the numbers counted into the front of the list. Relies on specs/Prepare/Steps.
use Rattle.std.specs.Prelude.{refl}
use Rattle.image.specs.Prelude.{arith}
use Rattle.rename.specs.Prepare.Steps.{listed-upper}
use Rattle.rename.proofs.prepare.list_upper.Goals as goal

pub returns : goal.returns
returns c = (refl, listed-upper c.args.n _ c.args.numbers.now _ refl (omega arith) c.count_numbers.auto.numbers c.count_numbers.ensures)
