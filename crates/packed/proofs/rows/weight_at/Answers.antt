-- `weight_at` meets its contract. Relies on specs/Rows/Branches.
use Rattle.image.specs.Prelude.{sym, arith}
use Rattle.packed.specs.Rows.Branches.{weight-none, weight-some}
use Rattle.packed.proofs.rows.weight_at.Goals as goal

pub returns-then-mark_at-eq0 : goal.returns-then-mark_at-eq0
returns-then-mark_at-eq0 c = (sym (weight-none c.args.area.now c.args.i (omega arith)), omega arith)

pub returns : goal.returns
returns c = let q = weight-some c.args.area.now c.args.i (λ z. omega arith) in let l = c.row_at.ensures.path_length in let s = c.row_at.result.path_short in (omega arith, omega arith)
