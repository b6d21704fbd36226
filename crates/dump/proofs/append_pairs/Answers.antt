-- The loop over a leaf's pairs: the rows so far and those of the entries left make all (specs/AppendSteps).
use Rattle.image.specs.Prelude.{sym, subst}
use Rattle.live_count.specs.Steps.{leaf-key, leaf-rest, leaf-other}
use Rattle.dump.specs.Dump.{Room}
use Rattle.dump.specs.AppendSteps.{added-as, append-first, append-end, append-room, append-next, values-first, pair-rows, pair-value}
use Rattle.dump.proofs.append_pairs.Goals as goal

pub loop-entry-init : goal.loop-entry-init
loop-entry-init c = rw c.into_iter-entry-iterator.ensures.into_iter_gives (append-first _ _ _ _ _ c.requires.0 c.requires.1, c.requires.2)

pub returns-in_default : goal.returns-in_default
returns-in_default c = absurd (leaf-other _ _ _ _ c.in-Some.ensures.steps c.loop-entry.invariant.1 c.in_default.not-Pair)

pub append_pair-m-requires : goal.append_pair-m-requires
append_pair-m-requires c =
    let i = c.loop-entry.invariant in (
      pair-value c.args.here.now.prefix c.args.here.now.trail c.in-Some.entry _ _ c.in-Pair.is (values-first _ _ _ c.in-Some.ensures.steps i.0.values),
      subst (λ t. Room c.loop-entry.area c.loop-entry.m t) (pair-rows c.args.here.now.prefix c.args.here.now.trail c.in-Some.entry _ _ c.in-Pair.is) (append-room _ _ _ _ _ _ _ _ i.0 _ _ c.in-Some.ensures.steps),
      leaf-key _ _ _ _ c.in-Some.ensures.steps i.1 _ _ c.in-Pair.is,
    )

pub loop-entry-preserved : goal.loop-entry-preserved
loop-entry-preserved c =
    let i = c.loop-entry.invariant in (
      append-next _ _ _ _ _ _ _ _ i.0 _ _ c.in-Some.ensures.steps _ _ (added-as _ _ _ _ _ _ (sym (pair-rows c.args.here.now.prefix c.args.here.now.trail c.in-Some.entry _ _ c.in-Pair.is)) c.append_pair-m.ensures),
      leaf-rest _ _ _ _ c.in-Some.ensures.steps i.1 _ _ c.in-Pair.is,
    )

pub returns : goal.returns
returns c = append-end _ _ _ _ _ _ _ _ c.loop-entry.invariant.0 c.in-None.ensures.steps.0
