-- `act_flush` meets its contract. Relies on specs/Steps.
use Rattle.maintain.specs.Steps.{flushed-passed, flushed-upheld}
use Rattle.maintain.proofs.act_flush.Goals as goal

pub push_down-pushed-requires : goal.push_down-pushed-requires
push_down-pushed-requires c = (c.requires.0.whole, c.requires.0.is_sound, c.requires.1)

pub rebuild_unless-requires : goal.rebuild_unless-requires
rebuild_unless-requires c = flushed-passed _ _ _ _ _ c.requires.0 c.push_down-pushed.ensures

pub returns : goal.returns
returns c = flushed-upheld _ _ _ _ _ _ _ c.push_down-pushed.ensures c.rebuild_unless.ensures
