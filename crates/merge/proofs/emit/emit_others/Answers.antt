-- `emit_others` meets its contract: all entries but one child stand one behind the other. Relies on specs/EmitSteps and on push's WriteSteps.
use Rattle.std.proofs.Common.{rules}
use Rattle.std.specs.Prelude.{refl}
use Rattle.push.specs.WriteSteps.{page-fits, page-on, page-ends, page-stays, whole-fits}
use Rattle.merge.specs.EmitSteps.{without-same, without-more, without-none, small-first, small-later, small-is}
use Rattle.merge.proofs.emit.emit_others.Goals as goal

pub push-requires : goal.push-requires
push-requires c = (
  page-fits _ _ _ _ _ (without-more _ _ _ c.in-Some.ensures.steps c.args.gone (search rules)) c.loop-entry.invariant.1 _ refl (whole-fits _ _ c.requires.1),
  small-is _ (small-first _ _ _ c.in-Some.ensures.steps c.loop-entry.invariant.0),
)

pub loop-entry-preserved-then-not-is_child : goal.loop-entry-preserved-then-not-is_child
loop-entry-preserved-then-not-is_child c = (
  small-later _ _ _ c.in-Some.ensures.steps c.loop-entry.invariant.0,
  page-on _ _ _ _ _ (without-more _ _ _ c.in-Some.ensures.steps c.args.gone (search rules)) c.loop-entry.invariant.1 _ _ refl c.push.ensures,
)

pub loop-entry-preserved : goal.loop-entry-preserved
loop-entry-preserved c = (
  small-later _ _ _ c.in-Some.ensures.steps c.loop-entry.invariant.0,
  page-stays _ _ _ _ (without-same _ _ _ c.in-Some.ensures.steps c.args.gone (search rules)) c.loop-entry.invariant.1,
)

pub returns : goal.returns
returns c = page-ends _ _ _ (without-none c.args.gone _ c.in-None.ensures.steps.0) c.loop-entry.invariant.1
