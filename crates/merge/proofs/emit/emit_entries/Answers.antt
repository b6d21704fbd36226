-- `emit_entries` meets its contract: the entries stand one behind the other. Relies on specs/EmitSteps and on push's WriteSteps.
use Rattle.std.specs.Prelude.{refl}
use Rattle.push.specs.WriteSteps.{page-fits, page-on, page-ends, whole-fits}
use Rattle.merge.specs.EmitSteps.{prefixed-cons, prefixed-none, small-first, small-later}
use Rattle.merge.proofs.emit.emit_entries.Goals as goal

pub emit_entry-requires : goal.emit_entry-requires
emit_entry-requires c = (
  small-first _ _ _ c.in-Some.ensures.steps c.loop-entry.invariant.0,
  page-fits _ _ _ _ _ (prefixed-cons _ _ _ c.in-Some.ensures.steps c.args.more.now) c.loop-entry.invariant.1 _ refl (whole-fits _ _ c.requires.1),
)

pub loop-entry-preserved : goal.loop-entry-preserved
loop-entry-preserved c = (
  small-later _ _ _ c.in-Some.ensures.steps c.loop-entry.invariant.0,
  page-on _ _ _ _ _ (prefixed-cons _ _ _ c.in-Some.ensures.steps c.args.more.now) c.loop-entry.invariant.1 _ _ refl c.emit_entry.ensures,
)

pub returns : goal.returns
returns c = page-ends _ _ _ (prefixed-none c.args.more.now _ c.in-None.ensures.steps.0) c.loop-entry.invariant.1
