-- `query::check` meets its contract: the two questions, then the live count (specs/CheckSteps). Assumes nothing.
use Rattle.std.proofs.Common.{ap, not}
use Rattle.image.specs.Prelude.{sym, ◌∙◌, arith, not-false}
use Rattle.lookup.specs.Root.{long-enough}
use Rattle.query.specs.CheckSteps.{ragged, unsound, counted, refused-few}
use Rattle.query.proofs.check.Goals as goal

pub returns-then-not-whole_nodes : goal.returns-then-not-whole_nodes
returns-then-not-whole_nodes c = record { check_meets = ragged _ _ c.whole_nodes.ensures c.if-not-whole_nodes.true; few = refused-few _ }

pub is_sound-requires : goal.is_sound-requires
is_sound-requires c = sym c.whole_nodes.ensures ∙ not-false _ (ap not c.if-not-whole_nodes.false)

pub returns-then-not-is_sound : goal.returns-then-not-is_sound
returns-then-not-is_sound c = record { check_meets = unsound _ _ c.whole_nodes.ensures c.if-not-whole_nodes.false _ c.is_sound.ensures c.if-not-is_sound.true; few = refused-few _ }

pub read_live-live-requires : goal.read_live-live-requires
read_live-live-requires c = let l = long-enough _ (sym c.is_sound.ensures ∙ not-false _ (ap not c.if-not-is_sound.false)) in omega arith

pub returns : goal.returns
returns c = let all = counted _ _ c.whole_nodes.ensures c.if-not-whole_nodes.false _ c.is_sound.ensures c.if-not-is_sound.false _ c.read_live-live.ensures.0 in record { check_meets = all.0; few = all.1 }
