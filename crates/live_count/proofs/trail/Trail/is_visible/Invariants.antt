-- The loop of `is_visible`: the nodes passed, from the last on, have no message on the path. Relies on specs/Walk.
use Rattle.std.specs.Prelude.{◌≡◌, true, drop}
use Rattle.std.specs.List.{list_all}
use Rattle.live_count.specs.Walk.{says_nothing}
use Rattle.live_count.proofs.trail.Trail.is_visible.Given as goal

abbrev pub invariant-loop-depth : goal.invariant-loop-depth
invariant-loop-depth l = list_all (says_nothing l.path) (drop l.depth l.nodes) ≡ true
