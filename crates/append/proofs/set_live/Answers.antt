-- `append::set_live` meets its contract: one number of node 0.
use Rattle.append.specs.WriteSteps.{sets-live}
use Rattle.append.proofs.set_live.Goals as goal

pub returns : goal.returns
returns c = sets-live _ _ _ c.put_u16.ensures
