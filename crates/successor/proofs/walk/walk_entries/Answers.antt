-- `walk_entries` meets its contract: an entry's path is visited, if it has one. Relies on specs/Visited.
use Rattle.std.specs.Prelude.{[], ◌∷◌}
use Rattle.laws.specs.Reading.SeekHere.{under}
use Rattle.node.specs.Lent.{left_of}
use Rattle.successor.specs.Visited.{visited-start, visited-more, visited-end, entries-more, entries-end}
use Rattle.successor.proofs.walk.walk_entries.Goals as goal

pub loop-entry-init : goal.loop-entry-init
loop-entry-init g c = rw c.into_iter-entry-iterator.ensures.into_iter_gives (visited-start g.V.Visitor.walks g.met.V.Visitor.nothing _ _)

pub loop-entry-preserved-in_default : goal.loop-entry-preserved-in_default
unfolding under
loop-entry-preserved-in_default g c =
    visited-more g.V.Visitor.walks g.met.V.Visitor.both _ _ _ _ _ [] _ (entries-more c.args.pre.now _ _ _ [] c.in-Some.ensures.steps c.in_default.ensures) c.loop-entry.invariant (g.met.V.Visitor.nothing _)

pub loop-entry-preserved : goal.loop-entry-preserved
unfolding under
loop-entry-preserved g c =
    visited-more g.V.Visitor.walks g.met.V.Visitor.both _ _ _ _ _ _ _ (entries-more c.args.pre.now _ _ _ (c.in-Some-path_of.path.now ∷ []) c.in-Some.ensures.steps c.in-Some-path_of.ensures) c.loop-entry.invariant c.visit.ensures

pub returns : goal.returns
returns g c =
    visited-end g.V.Visitor.walks g.met.V.Visitor.both _ _ _ _ _ c.loop-entry.invariant (rw (entries-end c.args.pre.now (left_of c.loop-entry.entry-iterator) c.in-None.ensures.steps.0) (g.met.V.Visitor.nothing _))
