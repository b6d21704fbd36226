-- `swing` meets its contract: the plan of each direction. Relies on specs/Asked.
use Rattle.swing.specs.Asked.{plan-up, done-up, plan-down, done-down}
use Rattle.image.specs.Prelude.{sym, ◌∙◌}
use Rattle.swing.proofs.swing.Goals as goal

pub swing_over-requires : goal.swing_over-requires
swing_over-requires c = plan-up _ _ _ _ c.requires (sym c.precedes.ensures ∙ c.if-precedes.true)

pub returns-then-precedes : goal.returns-then-precedes
returns-then-precedes c = done-up _ _ _ _ c.requires (sym c.precedes.ensures ∙ c.if-precedes.true) _ c.swing_over.ensures

pub swing_over-requires-2 : goal.swing_over-requires-2
swing_over-requires-2 c = plan-down _ _ _ _ c.requires (sym c.precedes.ensures ∙ c.if-precedes.false)

pub returns : goal.returns
returns c = done-down _ _ _ _ c.requires (sym c.precedes.ensures ∙ c.if-precedes.false) _ c.swing_over-2.ensures
