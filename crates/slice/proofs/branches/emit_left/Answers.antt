-- `emit_left` meets its contract, by where the child in hand lies. Relies on specs/BranchSteps and push/specs/WriteSteps.
use Rattle.std.specs.Prelude.{◌+◌}
use Rattle.image.specs.Prelude.{sym, subst, ◌∙◌}
use Rattle.push.specs.WriteSteps.{page-fits, page-on, page-ends, whole-fits, child-small, children-small}
use Rattle.slice.specs.Point.{Misses, Holds}
use Rattle.slice.specs.PieceSteps.{push-fits, push-on}
use Rattle.slice.specs.BranchSteps.{pushed-child, left-fits, before-none, misses-none, before-past, point-past, before-held, point-held, before-missed, point-missed}
use Rattle.slice.proofs.branches.emit_left.Goals as goal

pub returns-then-not-precedes : goal.returns-then-not-precedes
returns-then-not-precedes c =
    let t = sym c.if-precedes.true ∙ c.precedes.ensures in
    let g = sym c.if-not-precedes.true ∙ c.precedes-then-precedes.ensures in
    let s = c.in-Some.ensures.steps in (
      page-ends _ _ _ (before-missed c.args.d c.args.num _ _ _ _ c.in-Some.child s.first _ s.ends c.loop-child.invariant.1 t g) c.loop-child.invariant.2,
      subst Misses c.loop-child.invariant.3.1 (point-missed c.args.d c.args.num _ _ _ _ c.in-Some.child s.first _ s.ends c.loop-child.invariant.1 t g c.loop-child.invariant.3.0),
    )

pub push-requires : goal.push-requires
push-requires c =
    let t = sym c.if-precedes.true ∙ c.precedes.ensures in
    let g = sym c.if-not-precedes.false ∙ c.precedes-then-precedes.ensures in
    let s = c.in-Some.ensures.steps in (
      push-fits _ _ _ _ _ (before-held c.args.d c.args.num _ _ _ _ c.in-Some.child s.first _ s.ends c.loop-child.invariant.1 t g) c.past.ensures
          (left-fits _ _ _ _ c.loop-child.invariant.2 c.requires.0),
      c.requires.2,
    )

pub returns-then-precedes : goal.returns-then-precedes
returns-then-precedes c =
    let t = sym c.if-precedes.true ∙ c.precedes.ensures in
    let g = sym c.if-not-precedes.false ∙ c.precedes-then-precedes.ensures in
    let s = c.in-Some.ensures.steps in (
      push-on _ _ _ _ _ (before-held c.args.d c.args.num _ _ _ _ c.in-Some.child s.first _ s.ends c.loop-child.invariant.1 t g) c.past.ensures _ c.push.ensures
          ∙ c.loop-child.invariant.2,
      subst (λ x. Holds x c.in-Some.child) c.loop-child.invariant.3.1
          (point-held c.args.d c.args.num _ _ _ _ c.in-Some.child s.first _ s.ends c.loop-child.invariant.1 t g c.loop-child.invariant.3.0),
    )

pub push-requires-in-loop-child : goal.push-requires-in-loop-child
push-requires-in-loop-child c =
    let f = sym c.if-precedes.false ∙ c.precedes.ensures in
    let s = c.in-Some.ensures.steps in (
      page-fits _ _ _ _ _ (before-past c.args.d c.args.num _ _ _ _ c.in-Some.child s.first _ s.ends c.loop-child.invariant.1 f) c.loop-child.invariant.2 _
          (pushed-child _ _ _ c.past-in-loop-child.ensures) (whole-fits _ _ c.requires.0),
      child-small _ _ _ _ s.first c.loop-child.invariant.0,
    )

pub loop-child-preserved : goal.loop-child-preserved
loop-child-preserved c =
    let f = sym c.if-precedes.false ∙ c.precedes.ensures in
    let s = c.in-Some.ensures.steps in (
      children-small _ _ _ _ s.first c.loop-child.invariant.0,
      s.keeps ∙ c.loop-child.invariant.1,
      page-on _ _ _ _ _ (before-past c.args.d c.args.num _ _ _ _ c.in-Some.child s.first _ s.ends c.loop-child.invariant.1 f) c.loop-child.invariant.2 _ _
          (pushed-child _ _ _ c.past-in-loop-child.ensures) c.push-in-loop-child.ensures,
      (
        c.loop-child.invariant.3.0 + 1,
        point-past c.args.d c.args.num _ _ _ _ c.in-Some.child s.first _ s.ends c.loop-child.invariant.1 f c.loop-child.invariant.3.0 ∙ c.loop-child.invariant.3.1,
      ),
    )

pub returns : goal.returns
returns c = (
  page-ends _ _ _ (before-none c.args.d c.args.num _ _ _ c.in-None.ensures.steps) c.loop-child.invariant.2,
  subst Misses c.loop-child.invariant.3.1 (misses-none c.args.d c.args.num _ _ _ c.in-None.ensures.steps c.loop-child.invariant.3.0),
)
