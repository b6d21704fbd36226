-- `low_place` meets its contract, by direction. Relies on specs/Code.
use Rattle.swing.specs.Code.{place_up, place_down}
use Rattle.swing.proofs.low_place.Goals as goal

pub returns-then-up : goal.returns-then-up
returns-then-up c = place_up _ _ c.if-up.true

pub returns : goal.returns
returns c = place_down _ _ c.if-up.false
