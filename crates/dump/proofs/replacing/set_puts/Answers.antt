-- The loop over the root's entries: the rows so far, with the puts left, make the same table (specs/ReplacingSteps).
use Rattle.dump.specs.ReplacingSteps.{setting-end, setting-past, setting-next, put-path, put-value, put-room}
use Rattle.dump.proofs.replacing.set_puts.Goals as goal

pub invariant_of-row : goal.invariant_of-row
invariant_of-row c =
    let i = c.loop-entry.invariant in
    record { path_short = put-path _ _ _ _ _ _ i _ _ c.in-Some.ensures.steps _ _ c.in-Some-put_of.ensures; value_short = put-value _ _ _ _ _ _ i _ _ c.in-Some.ensures.steps _ _ c.in-Some-put_of.ensures }

pub set_row-all-requires : goal.set_row-all-requires
set_row-all-requires c =
    let i = c.loop-entry.invariant in
    (i.unset.apart, put-room _ _ _ _ _ _ i _ _ c.in-Some.ensures.steps _ _ c.in-Some-put_of.ensures)

pub loop-entry-preserved-in_default : goal.loop-entry-preserved-in_default
loop-entry-preserved-in_default c = setting-past _ _ _ _ _ _ c.loop-entry.invariant _ _ c.in-Some.ensures.steps c.in_default.ensures

pub loop-entry-preserved : goal.loop-entry-preserved
loop-entry-preserved c = setting-next _ _ _ _ _ _ c.loop-entry.invariant _ _ c.in-Some.ensures.steps _ _ c.in-Some-put_of.ensures _ _ c.set_row-all.ensures

pub returns : goal.returns
returns c = setting-end _ _ _ _ _ _ c.loop-entry.invariant c.in-None.ensures.steps.0
