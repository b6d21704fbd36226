-- `low_pivot` meets its contract. Relies on specs/Rows/Branches.
use Rattle.image.specs.Prelude.{sym, ◌∙◌, arith}
use Rattle.packed.specs.Rows.Branches.{low-first, low-later}
use Rattle.packed.proofs.rows.low_pivot.Goals as goal

pub returns-then-i-eq0 : goal.returns-then-i-eq0
returns-then-i-eq0 c = (sym (low-first _ _ (omega arith)), omega arith)

pub returns : goal.returns
returns c = (c.row_at.ensures.path_is ∙ sym (low-later _ _ (λ z. omega arith)), c.row_at.result.path_short)
