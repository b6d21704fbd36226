-- `batch::run` meets its contract: the turns so far are a run of calls. Relies on specs/Turns.
use Rattle.std.proofs.Common.{rules}
use Rattle.batch.specs.Turns.{begins, turn-asks, moved, goes-on, ends}
use Rattle.std.specs.Prelude.{refl}
use Rattle.image.specs.Prelude.{arith}
use Rattle.batch.proofs.run.Goals as goal

pub loop-behind-init : goal.loop-behind-init
loop-behind-init c = (begins _ _ _ _ c.requires, refl, refl, refl)

pub take_turn-requires : goal.take_turn-requires
take_turn-requires c = turn-asks _ _ _ _ _ _ _ _ _ _ c.loop-behind.invariant.0

pub returns : goal.returns
returns c = ends _ _ _ _ _ _ _ _ _ _ c.loop-behind.invariant.0 _ _ _ _ _ c.take_turn.ensures c.in_default.is

pub overflow_add-done : goal.overflow_add-done
overflow_add-done c = let m = moved _ _ _ _ _ _ _ _ _ _ c.loop-behind.invariant.0 _ _ _ _ _ c.take_turn.ensures _ c.in-Some.is in omega (arith, m.1)

pub loop-behind-smaller : goal.loop-behind-smaller
loop-behind-smaller c = let m = moved _ _ _ _ _ _ _ _ _ _ c.loop-behind.invariant.0 _ _ _ _ _ c.take_turn.ensures _ c.in-Some.is in omega (arith, m.0)

pub loop-behind-preserved : goal.loop-behind-preserved
loop-behind-preserved c = (goes-on _ _ _ _ _ _ _ _ _ _ c.loop-behind.invariant.0 _ _ _ _ _ c.take_turn.ensures _ c.in-Some.is, search rules, search rules, search rules)
