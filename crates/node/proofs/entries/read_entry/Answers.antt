-- `read_entry` meets its contract. Relies on specs/Lent.
use Rattle.node.specs.Lent.{unread-short, unread-over, unread-kind, leads}
use Rattle.std.specs.Prelude.{refl}
use Rattle.node.proofs.entries.read_entry.Goals as goal

pub returns-in_err-head : goal.returns-in_err-head
returns-in_err-head c = rw c.from_residual.ensures (unread-short _ c.in_err-head.ensures.cases)

pub returns-in_err-body : goal.returns-in_err-body
returns-in_err-body c = let h = c.in_ok-head.ensures.cases in
    rw c.from_residual-in_err-body.ensures (unread-over _ _ _ h.0 h.1 h.2 _ _ c.u16_at.ensures.0 refl c.in_err-body.ensures.cases)

pub returns-in_err-entry : goal.returns-in_err-entry
returns-in_err-entry c = let h = c.in_ok-head.ensures.cases in
    let g = c.in_ok-body.ensures.cases in
    rw c.from_residual-in_err-entry.ensures (unread-kind _ _ _ h.0 h.1 h.2 _ _ c.u16_at.ensures.0 c.u16_at-2.ensures.0 g.0 _ _ g.1 g.2 c.in_err-entry.ensures)

pub returns : goal.returns
returns c = let h = c.in_ok-head.ensures.cases in
    let g = c.in_ok-body.ensures.cases in
    leads _ _ _ h.0 h.1 h.2 _ _ c.u16_at.ensures.0 c.u16_at-2.ensures.0 g.0 _ _ g.1 g.2 _ c.in_ok-entry.ensures
