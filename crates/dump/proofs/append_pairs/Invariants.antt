-- The loop of `append_pairs`: the rows so far and those of the entries left make all. Relies on specs/Dump and specs/AppendSteps.
use Rattle.live_count.specs.Walk.{passing}
use Rattle.live_count.specs.Noted.{LeafTold}
use Rattle.node.specs.Lent.{left_of}
use Rattle.laws.specs.Filter.{keep}
use Rattle.image.specs.Table.{under_prefix}
use Rattle.dump.specs.Dump.{pairs_among}
use Rattle.dump.specs.AppendSteps.{Appending}
use Rattle.dump.proofs.append_pairs.Given as goal

abbrev pub invariant-loop-entry : goal.invariant-loop-entry
invariant-loop-entry l = Appending l.first l.fn.area l.area l.m (passing l.here.trail) l.here.prefix (left_of l.entry-iterator) (keep (passing l.here.trail) (under_prefix l.here.prefix (pairs_among (left_of l.fn.entries)))) × LeafTold l.here (left_of l.entry-iterator)
