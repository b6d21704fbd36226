-- `act_heal` meets its contract: the children are joined, then the work area is cleared.
-- Relies on specs/Steps.
use Rattle.maintain.specs.Steps.{healed-passed, healed-upheld}
use Rattle.maintain.proofs.act_heal.Goals as goal

pub mend_children-requires : goal.mend_children-requires
mend_children-requires c = (c.requires.0.whole, c.requires.0.is_sound, c.requires.1)

pub rebuild_unless-requires : goal.rebuild_unless-requires
rebuild_unless-requires c = healed-passed _ _ _ _ c.requires.0 c.mend_children.ensures

pub returns : goal.returns
returns c = healed-upheld _ _ _ _ _ _ c.mend_children.ensures c.rebuild_unless.ensures
