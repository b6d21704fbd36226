-- `split_keyed` meets its contract. Relies on specs/Lent.
use Rattle.node.specs.Lent.{keyed-short, keyed-over, keyed-parts}
use Rattle.node.proofs.entries.split_keyed.Goals as goal

pub returns-in_err-head : goal.returns-in_err-head
returns-in_err-head c = rw c.from_residual.ensures (keyed-short c.args.bytes.now c.in_err-head.ensures.cases)

pub returns-in_err-key : goal.returns-in_err-key
returns-in_err-key c = let h = c.in_ok-head.ensures.cases in
    rw c.from_residual-in_err-key.ensures (keyed-over _ _ _ h.0 h.1 h.2 _ c.u16_at.ensures.0 c.in_err-key.ensures.cases)

pub returns : goal.returns
returns c = let h = c.in_ok-head.ensures.cases in
    let g = c.in_ok-key.ensures.cases in
    keyed-parts _ _ _ h.0 h.1 h.2 _ c.u16_at.ensures.0 g.0 _ _ g.1 g.2
