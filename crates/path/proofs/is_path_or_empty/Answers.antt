-- `is_path_or_empty` meets its contract. Relies on specs/Fed.
use Rattle.std.proofs.Common.{rules}
use Rattle.image.specs.Prelude.{◌∙◌}
use Rattle.path.specs.Fed.{none-fed, some-fed}
use Rattle.path.proofs.is_path_or_empty.Goals as goal

pub returns-then-is_empty : goal.returns-then-is_empty
returns-then-is_empty c = c.if-is_empty.true ∙ none-fed _ (search rules)

pub returns-else-is_empty : goal.returns-else-is_empty
returns-else-is_empty c = some-fed _ _ (search rules) c.is_path.ensures
