-- `visit` meets its contract, by whether all were held before. Relies on specs/Steps.
use Rattle.std.specs.Prelude.{refl}
use Rattle.inclusion.specs.Steps.{inspected-path}
use Rattle.inclusion.proofs.InclusionVisitor.visit.Goals as goal

pub returns-then-self : goal.returns-then-self
returns-then-self c = inspected-path _ _ _ c.if-self.true refl refl c.holds_path-self.ensures
