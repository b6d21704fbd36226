-- The loop of `merge_chunk`: some of the rows set aside are to come in, and those behind them are done. Relies on
-- specs/Insertion/MergeSteps.
use Rattle.dump.specs.Insertion.MergeSteps.{Aside, Merging}
use Rattle.dump.proofs.insertion.merge_chunk.Given as goal

abbrev pub invariant-loop-left : goal.invariant-loop-left
invariant-loop-left l = Aside l.initial.area l.aside l.middle l.end × Merging l.initial.area l.aside l.area l.first l.middle l.end l.high l.left
