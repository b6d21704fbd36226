-- `successor::next_path` meets the contract: every path is unfit for the dead shape (specs/Present).
use Rattle.successor.specs.Present.{next-any}
use Rattle.successor.proofs.next_path.Goals as goal

pub returns : goal.returns
returns c = next-any _ _ _ _ c.next_unfit.ensures
