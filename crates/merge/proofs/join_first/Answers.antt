-- `join_first` meets its contract: the two children in hand are joined if one node holds them, or the search goes on. Relies on specs/JoinSteps.
use Rattle.std.specs.Prelude.{length}
use Rattle.image.specs.Prelude.{ap}
use Rattle.merge.specs.JoinSteps.{room-stays, first-none, begins, finds-none, still-short, finds, goes-on}
use Rattle.merge.proofs.join_first.Goals as goal

pub returns-in_default : goal.returns-in_default
returns-in_default c = first-none _ _ _ _ _ _ c.in_default.ensures.steps

pub loop-right-init : goal.loop-right-init
loop-right-init c =
    rw c.into_iter-right-iterator.ensures.into_iter_gives
    (begins _ _ _ _ _ _ _ _ _ _ _ c.requires.1 c.in-Some.ensures.steps.first c.in-Some.ensures.steps.ends c.in-Some.ensures.steps.keeps)

pub join_fitting-requires : goal.join_fitting-requires
join_fitting-requires c =
    let w = still-short _ _ _ _ _ _ _ _ _ _ _ _ c.loop-right.invariant _ _ _ _ c.in-Some-right.ensures.steps.first c.in-Some-right.ensures.steps.ends in
    (room-stays _ _ _ _ _ (ap length c.loop-right.invariant.same) c.requires.0, w.0, w.1)

pub returns-then-join_fitting : goal.returns-then-join_fitting
returns-then-join_fitting c =
    finds _ _ _ _ _ _ _ _ _ _ _ _ c.loop-right.invariant _ _ _ _ c.in-Some-right.ensures.steps.first c.in-Some-right.ensures.steps.ends _ _ c.join_fitting.ensures.0 c.join_fitting.ensures.1
    c.if-join_fitting.true

pub loop-right-preserved : goal.loop-right-preserved
loop-right-preserved c =
    goes-on _ _ _ _ _ _ _ _ _ _ _ _ c.loop-right.invariant _ _ _ _ c.in-Some-right.ensures.steps.first c.in-Some-right.ensures.steps.ends _ _ c.join_fitting.ensures.0 c.join_fitting.ensures.1
    c.if-join_fitting.false _ c.in-Some-right.ensures.steps.keeps

pub returns : goal.returns
returns c = finds-none _ _ _ _ _ _ _ _ _ _ _ _ c.loop-right.invariant c.in-None.ensures.steps
