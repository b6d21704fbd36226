-- `edit::drop_fit` meets its contract, question by question. Relies on specs/Edited.
use Rattle.edit.specs.Edited.{drop-malformed, drop-done, drop-fits}
use Rattle.edit.specs.Known.{known-drop}
use Rattle.edit.proofs.drop_fit.Goals as goal

pub returns-then-not-is_path : goal.returns-then-not-is_path
returns-then-not-is_path c = drop-malformed c.args.store.now c.args.work.now c.requires.0.whole c.requires.0.is_sound c.requires.0.long c.args.path.now _ c.is_path.ensures c.if-not-is_path.true

pub apply_change-requires : goal.apply_change-requires
apply_change-requires c = (c.requires.0, c.requires.1, drop-fits c.args.store.now c.args.work.now c.requires.0.whole c.requires.0.is_sound c.requires.0.long c.args.path.now _ c.is_path.ensures c.if-not-is_path.false, known-drop _ _ _ c.count_without-count.ensures)

pub returns : goal.returns
returns c = drop-done c.args.store.now c.args.work.now c.requires.0.whole c.requires.0.is_sound c.requires.0.long c.args.path.now _ c.is_path.ensures c.if-not-is_path.false _ _ c.apply_change.ensures
