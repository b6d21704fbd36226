-- `read_piece` meets its contract. Relies on specs/Steps.
use Rattle.requests.specs.Steps.{unread-short, unread-over, unread-kind, leads}
use Rattle.std.specs.Prelude.{refl}
use Rattle.requests.proofs.read_piece.Goals as goal

pub returns-in_err-head : goal.returns-in_err-head
returns-in_err-head c = rw c.from_residual.ensures (unread-short _ c.in_err-head.ensures.cases)

pub returns-in_err-rest : goal.returns-in_err-rest
returns-in_err-rest c = let h = c.in_ok-head.ensures.cases in
    rw c.from_residual-in_err-rest.ensures (unread-over _ _ _ h.0 h.1 h.2 _ _ c.u16_at.ensures.0 refl c.in_err-rest.ensures.cases)

pub returns-in_err-piece : goal.returns-in_err-piece
returns-in_err-piece c = let h = c.in_ok-head.ensures.cases in
    let g = c.in_ok-rest.ensures.cases in
    rw c.from_residual-in_err-piece.ensures (unread-kind _ _ _ h.0 h.1 h.2 _ _ c.u16_at.ensures.0 c.u16_at-2.ensures.0 g.0 _ _ g.1 g.2 c.in_err-piece.ensures)

pub returns : goal.returns
returns c = let h = c.in_ok-head.ensures.cases in
    let g = c.in_ok-rest.ensures.cases in
    leads _ _ _ h.0 h.1 h.2 _ _ c.u16_at.ensures.0 c.u16_at-2.ensures.0 g.0 _ _ g.1 g.2 _ c.in_ok-piece.ensures
