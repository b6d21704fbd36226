-- The loop of `set_puts`: the rows so far, with the puts left, make the same table. Relies on specs/Insertion/Insertion, specs/Replacing and
-- specs/ReplacingSteps.
use Rattle.std.specs.Prelude.{[]}
use Rattle.node.specs.Lent.{left_of}
use Rattle.dump.specs.Insertion.Insertion.{laid}
use Rattle.dump.specs.Replacing.{put_among}
use Rattle.dump.specs.ReplacingSteps.{Setting}
use Rattle.dump.proofs.replacing.set_puts.Given as goal

abbrev pub invariant-loop-entry : goal.invariant-loop-entry
invariant-loop-entry l = Setting l.m l.fn.area l.area l.all (left_of l.entry-iterator) (put_among [] (left_of l.fn.entries) (laid l.fn.area l.m l.m))
