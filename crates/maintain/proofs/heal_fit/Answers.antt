-- `maintain::heal_fit` meets its contract: question 6, and then the act, by specs/Steps.
use Rattle.std.proofs.Common.{ap, not}
use Rattle.image.specs.Prelude.{not-false, sym, ◌∙◌}
use Rattle.maintain.specs.Steps.{not-interior, upheld-done}
use Rattle.maintain.proofs.heal_fit.Goals as goal

pub returns-then-not-is_interior : goal.returns-then-not-is_interior
returns-then-not-is_interior c = not-interior _ _ c.args.work.now c.requires.0 _ _ c.is_interior.ensures c.if-not-is_interior.true

pub act_heal-requires : goal.act_heal-requires
act_heal-requires c = (c.requires.0, sym c.is_interior.ensures ∙ not-false _ (ap not c.if-not-is_interior.false))

pub returns : goal.returns
returns c = upheld-done _ _ c.args.work.now c.requires.0 _ _ c.is_interior.ensures c.if-not-is_interior.false _ _ c.act_heal.ensures
