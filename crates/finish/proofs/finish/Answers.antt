-- `finish` meets its contract: a count, and then conclude. Relies on the contract of live_count.
use Rattle.live_count.specs.RootSteps.{countable}
use Rattle.finish.proofs.finish.Goals as goal

pub count_paths-live-requires : goal.count_paths-live-requires
count_paths-live-requires c = countable _ c.requires.1
