-- `live_paths` meets its contract: counted, or known. Relies on specs/Known and finish's laws of the count.
use Rattle.live_count.specs.RootSteps.{countable}
use Rattle.edit.specs.Known.{counts-some, few-cap}
use Rattle.edit.proofs.live_paths.Goals as goal

pub count_paths-requires : goal.count_paths-requires
count_paths-requires c = countable _ c.requires.0

pub returns-in-Some : goal.returns-in-Some
returns-in-Some c = few-cap _ _ _ c.requires.2 c.requires.1 (counts-some _ _ _ c.requires.3 c.in-Some.is)
