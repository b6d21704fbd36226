-- `split_children` meets its contract, by where the child in hand lies. Relies on specs/BranchSteps.
use Rattle.std.specs.Prelude.{◌+◌}
use Rattle.image.specs.Prelude.{sym, subst, ◌∙◌}
use Rattle.slice.specs.Point.{Misses, Holds}
use Rattle.slice.specs.BranchSteps.{misses-none, rest-none, point-past, rest-past, point-held, rest-held, point-missed, rest-missed}
use Rattle.slice.proofs.point.split_children.Goals as goal

pub returns-in_default : goal.returns-in_default
returns-in_default c = (
  subst Misses c.loop-child.invariant.2.1 (misses-none 0 0 _ _ _ c.in_default.ensures.steps c.loop-child.invariant.2.0),
  c.in_default.ensures.steps ∙ sym (rest-none 0 0 _ _ _ c.in_default.ensures.steps) ∙ c.loop-child.invariant.1,
  c.loop-child.invariant.0,
)

pub returns-then-precedes-2 : goal.returns-then-precedes-2
returns-then-precedes-2 c =
    let s = c.in-Some.ensures.steps in (
      subst (λ x. Holds x c.in-Some.child) c.loop-child.invariant.2.1
          (point-held 0 0 _ _ _ _ c.in-Some.child s.first _ s.ends c.loop-child.invariant.0 c.if-precedes.ensures c.if-precedes-2.ensures c.loop-child.invariant.2.0),
      sym (rest-held 0 0 _ _ _ _ c.in-Some.child s.first _ s.ends c.loop-child.invariant.0 c.if-precedes.ensures c.if-precedes-2.ensures) ∙ c.loop-child.invariant.1,
      s.keeps ∙ c.loop-child.invariant.0,
    )

pub returns-then-precedes : goal.returns-then-precedes
returns-then-precedes c =
    let s = c.in-Some.ensures.steps in (
      subst Misses c.loop-child.invariant.2.1
          (point-missed 0 0 _ _ _ _ c.in-Some.child s.first _ s.ends c.loop-child.invariant.0 c.if-precedes.ensures c.if-precedes-2.ensures c.loop-child.invariant.2.0),
      sym (rest-missed 0 0 _ _ _ _ c.in-Some.child s.first _ s.ends c.loop-child.invariant.0 c.if-precedes.ensures c.if-precedes-2.ensures) ∙ c.loop-child.invariant.1,
      c.loop-child.invariant.0,
    )

pub loop-child-preserved : goal.loop-child-preserved
loop-child-preserved c =
    let s = c.in-Some.ensures.steps in (
      s.keeps ∙ c.loop-child.invariant.0,
      sym (rest-past 0 0 _ _ _ _ c.in-Some.child s.first _ s.ends c.loop-child.invariant.0 c.if-precedes.ensures) ∙ c.loop-child.invariant.1,
      (
        c.loop-child.invariant.2.0 + 1,
        point-past 0 0 _ _ _ _ c.in-Some.child s.first _ s.ends c.loop-child.invariant.0 c.if-precedes.ensures c.loop-child.invariant.2.0 ∙ c.loop-child.invariant.2.1,
      ),
    )
