-- `compare` meets its contract: the library's `cmp` is the definition. Relies on specs/Library.
use Rattle.image.specs.Prelude.{◌∙◌}
use Rattle.octets.specs.Library.{ordering_is}
use Rattle.octets.proofs.compare.Goals as goal

pub returns : goal.returns
returns c = c.cmp.ensures ∙ ordering_is _ _
