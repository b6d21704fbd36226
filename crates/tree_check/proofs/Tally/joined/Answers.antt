-- `joined` adds two tallies number by number. Relies on CountLaws.
use Rattle.tree_check.specs.CountLaws.{sum_is}
use Rattle.tree_check.proofs.Tally.joined.Goals as goal

pub returns : goal.returns
returns c = sum_is _ _ _ _ _ c.capped_sum.ensures.0 c.capped_sum-2.ensures.0 c.capped_sum-3.ensures.0
