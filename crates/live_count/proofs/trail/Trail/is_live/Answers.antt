-- `is_live` meets its contract: a path that is too long, and a path that the trail decides. Relies on specs/Steps.
use Rattle.image.specs.Prelude.{ap, ◌∙◌}
use Rattle.live_count.specs.Walk.{passing}
use Rattle.live_count.specs.Steps.{key-long, key-lifts}
use Rattle.live_count.proofs.trail.Trail.is_live.Goals as goal

pub returns-in_default : goal.returns-in_default
returns-in_default c = key-long c.args.prefix.now c.args.self.now c.args.key.now c.in_default.ensures

pub is_visible-requires : goal.is_visible-requires
is_visible-requires c = rw c.as_slice.ensures.held (c.as_slice.ensures.short, key-lifts c.args.prefix.now c.args.self.now c.args.key.now _ c.in-Some.ensures c.requires)

pub returns : goal.returns
returns c = c.is_visible.ensures ∙ ap (λ q. passing c.args.self.now q) (c.as_slice.ensures.held ∙ c.in-Some.ensures)
