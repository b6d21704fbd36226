-- The loop of `feed`: the bytes left, fed to the shape so far, end where all bytes do. Relies on specs/Fed and specs/Shape.
use Rattle.path.specs.Fed.{shape_is}
use Rattle.path.specs.Shape as defined
use Rattle.std.specs.Prelude.{drop, ◌≡◌}
use Rattle.path.proofs.feed.Given as goal

abbrev pub invariant-loop-b : goal.invariant-loop-b
invariant-loop-b l = defined.feed (shape_is l.sh) (drop l.b-index l.s) ≡ defined.feed (shape_is l.initial.sh) l.s
