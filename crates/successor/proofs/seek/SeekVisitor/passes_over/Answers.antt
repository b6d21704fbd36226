-- `passes_over` meets its contract: what is too far is not wanted. Relies on specs/Sought.
use Rattle.successor.specs.Sought.{sought-none}
use Rattle.successor.proofs.seek.SeekVisitor.passes_over.Goals as goal

pub returns : goal.returns
returns c = λ h ks f. sought-none _ _ _ ks _ c.is_far.ensures h f
