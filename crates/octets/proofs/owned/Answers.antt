-- `owned` meets its contract. Relies on specs/Compare.
use Rattle.octets.specs.Compare.{owned-low, owned-high}
use Rattle.octets.proofs.owned.Goals as goal
use Rattle.image.specs.Prelude.{ap, ◌∙◌}
use Rattle.std.specs.Prelude.{not}

pub returns-else-not-precedes : goal.returns-else-not-precedes
returns-else-not-precedes c = ap not c.if-not-precedes.false ∙ owned-low _ _ _ c.precedes.result c.precedes.ensures c.if-not-precedes.false

pub returns-then-not-precedes : goal.returns-then-not-precedes
returns-then-not-precedes c = owned-high _ _ _ c.precedes.result _ c.precedes.ensures c.if-not-precedes.true c.precedes-then-not-precedes.ensures
