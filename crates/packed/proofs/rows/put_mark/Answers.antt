-- `put_mark` meets its contract. Relies on specs/Rows/Puts.
use Rattle.image.specs.Prelude.{◌∙◌, arith}
use Rattle.packed.specs.Rows.Puts.{mark-put}
use Rattle.packed.proofs.rows.put_mark.Goals as goal

pub returns : goal.returns
returns c = c.put_u16.ensures ∙ mark-put _ _ _ (omega arith)
