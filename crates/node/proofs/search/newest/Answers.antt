-- `search::newest` meets its contract: a step of the loop for each kind of entry. Relies on specs/Search/Latest.
use Rattle.node.specs.Search.Latest.{latest-start, latest-end, other-step, quiet-step, said-step}
use Rattle.node.proofs.search.newest.Goals as goal

pub loop-entry-init : goal.loop-entry-init
loop-entry-init c = rw c.into_iter-entry-iterator.ensures.into_iter_gives (latest-start _ _)

pub loop-entry-preserved-in_default : goal.loop-entry-preserved-in_default
loop-entry-preserved-in_default c = other-step _ _ _ _ _ _ c.in-Some.ensures.steps c.loop-entry.invariant c.in_default.not-Message

pub loop-entry-preserved-in_default-says : goal.loop-entry-preserved-in_default-says
loop-entry-preserved-in_default-says c = quiet-step _ _ _ _ _ _ c.in-Some.ensures.steps c.loop-entry.invariant _ c.in-Message.is c.in_default-says.ensures

pub loop-entry-preserved : goal.loop-entry-preserved
loop-entry-preserved c = said-step _ _ _ _ _ _ c.in-Some.ensures.steps c.loop-entry.invariant _ c.in-Message.is _ c.in-Some-says.ensures

pub returns : goal.returns
returns c = latest-end _ _ _ _ c.in-None.ensures.steps.0 c.loop-entry.invariant
