-- `split_child` meets its contract. Relies on specs/Lent.
use Rattle.node.specs.Lent.{child-short, child-over, child-parts}
use Rattle.std.specs.Prelude.{refl}
use Rattle.image.specs.Prelude.{arith}
use Rattle.node.proofs.entries.split_child.Goals as goal

pub returns-in_err-head : goal.returns-in_err-head
returns-in_err-head c = rw c.from_residual.ensures (child-short c.args.bytes.now c.in_err-head.ensures.cases)

pub returns-then-pivot-gt-PIVOT_LIMIT : goal.returns-then-pivot-gt-PIVOT_LIMIT
returns-then-pivot-gt-PIVOT_LIMIT c = let h = c.in_ok-head.ensures.cases in
    child-over c.args.bytes.now _ _ h.0 h.1 h.2 _ refl (omega arith)

pub returns : goal.returns
returns c = let h = c.in_ok-head.ensures.cases in
    child-parts _ _ _ h.0 h.1 h.2 _ c.u16_at.ensures.0 (omega arith)
