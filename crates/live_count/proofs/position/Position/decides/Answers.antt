-- `decides` meets its contract, by the kind of the entry. Relies on specs/Steps.
use Rattle.live_count.specs.Steps.{pair-decides, put-hidden, put-decides, none-decides}
use Rattle.live_count.proofs.position.Position.decides.Goals as goal

pub returns-in-Pair : goal.returns-in-Pair
returns-in-Pair c = pair-decides _ _ _ _ _ _ _ c.in-Pair.is c.is_live.ensures

pub returns-in_default-put_of : goal.returns-in_default-put_of
returns-in_default-put_of c = none-decides _ _ _ _ c.in_default.not-Pair c.in_default-put_of.ensures

pub returns-then-none_covers : goal.returns-then-none_covers
returns-then-none_covers c = put-decides _ _ _ _ _ _ _ _ c.in-Some.ensures c.none_covers.ensures c.if-none_covers.true c.is_live-then-none_covers.ensures

pub returns-else-none_covers : goal.returns-else-none_covers
returns-else-none_covers c = put-hidden _ _ _ _ _ _ _ c.in-Some.ensures c.none_covers.ensures c.if-none_covers.false
