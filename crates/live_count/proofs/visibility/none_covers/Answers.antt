-- `none_covers` meets its contract: the entries one by one, up to the first that covers the rest. Relies on specs/Notes/Steps.
use Rattle.image.specs.Prelude.{sym, ◌∙◌}
use Rattle.node.specs.Lent.{left_of}
use Rattle.live_count.specs.Notes.Steps.{uncovered-all, uncovered-end, uncovered-stop, uncovered-on, uncovered-past}
use Rattle.live_count.proofs.visibility.none_covers.Goals as goal

pub loop-entry-init : goal.loop-entry-init
loop-entry-init c = rw c.into_iter-entry-iterator.ensures.into_iter_gives (sym (uncovered-all (left_of c.args.entries) c.args.rest.now))

pub returns-then-covers : goal.returns-then-covers
returns-then-covers c = uncovered-stop _ _ _ c.loop-entry.invariant _ _ c.in-Some.ensures.steps c.in-Some-of.note c.in-Some-of.ensures (sym c.covers.ensures ∙ c.if-covers.true)

pub loop-entry-preserved-else-covers : goal.loop-entry-preserved-else-covers
loop-entry-preserved-else-covers c = uncovered-on _ _ _ c.loop-entry.invariant _ _ c.in-Some.ensures.steps c.in-Some-of.note c.in-Some-of.ensures (sym c.covers.ensures ∙ c.if-covers.false)

pub loop-entry-preserved : goal.loop-entry-preserved
loop-entry-preserved c = uncovered-past _ _ _ c.loop-entry.invariant _ _ c.in-Some.ensures.steps c.in_default.ensures

pub returns : goal.returns
returns c = uncovered-end _ _ _ c.loop-entry.invariant c.in-None.ensures.steps.0
