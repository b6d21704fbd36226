-- `begins_with` meets its contract: the library's `starts_with` is the definition. Relies on specs/Library.
use Rattle.image.specs.Prelude.{◌∙◌}
use Rattle.octets.specs.Library.{begins_is}
use Rattle.octets.proofs.begins_with.Goals as goal

pub returns : goal.returns
returns c = c.starts_with.ensures.value ∙ begins_is _ _
