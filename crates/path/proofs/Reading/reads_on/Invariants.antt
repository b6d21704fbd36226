-- The loop of `reads_on`: what is left reads on as the whole does. Relies on image's Path.
use Rattle.image.specs.Path.{reads_on}
use Rattle.std.specs.Prelude.{◌+◌, ◌≤◌, ◌≡◌, drop}
use Rattle.path.proofs.Reading.reads_on.Given as goal

abbrev pub invariant-loop-b : goal.invariant-loop-b
invariant-loop-b l = (l.read.components ≤ l.fn.self.components + l.b-index) × (l.read.here ≤ l.fn.self.here + l.b-index) × (reads_on l.read.components l.read.here (drop l.b-index l.s) ≡ reads_on l.fn.self.components l.fn.self.here l.s)
