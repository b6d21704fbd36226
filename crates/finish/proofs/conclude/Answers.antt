-- `conclude` meets its contract: the count written, then the area zeroed. Relies on specs/Finished.
use Rattle.finish.specs.Finished.{finish-done, small-live, area-fits, len-kept}
use Rattle.finish.proofs.conclude.Goals as goal

pub set_live-requires : goal.set_live-requires
set_live-requires c = small-live _ _ c.requires.0 c.requires.2 c.requires.4

pub clear_area-requires : goal.clear_area-requires
clear_area-requires c = area-fits c.args.store.now _ c.args.work.now _ c.requires.1 c.set_live.ensures c.requires.3

pub returns : goal.returns
returns c = finish-done _ _ _ _ _ _ c.requires.0 c.requires.1 c.requires.2 c.requires.4 c.set_live.ensures (len-kept c.args.store.now _ _ c.requires.1 c.set_live.ensures) c.clear_area.ensures
