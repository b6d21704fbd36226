-- `edit::clear_fit` meets its contract: all at once, or question by question. Relies on specs/Edited.
use Rattle.image.specs.Prelude.{arith}
use Rattle.edit.specs.Edited.{clear_all, clear-malformed, clear-done, clear-fits}
use Rattle.edit.proofs.clear_fit.Goals as goal

pub returns-then-path-eq0 : goal.returns-then-path-eq0
returns-then-path-eq0 c = clear_all c.args.store.now c.args.work.now c.requires.0.whole c.requires.0.is_sound c.requires.0.long c.args.path.now (omega arith) _ c.write_empty.ensures

pub returns-then-not-is_path : goal.returns-then-not-is_path
returns-then-not-is_path c = clear-malformed c.args.store.now c.args.work.now c.requires.0.whole c.requires.0.is_sound c.requires.0.long c.args.path.now _ c.is_path.ensures (λ h. omega arith) c.if-not-is_path.true

pub apply_change-requires : goal.apply_change-requires
apply_change-requires c = (c.requires.0, c.requires.1, clear-fits c.args.store.now c.args.work.now c.requires.0.whole c.requires.0.is_sound c.requires.0.long c.args.path.now _ c.is_path.ensures c.if-not-is_path.false, tt)

pub returns : goal.returns
returns c = clear-done c.args.store.now c.args.work.now c.requires.0.whole c.requires.0.is_sound c.requires.0.long c.args.path.now _ c.is_path.ensures c.if-not-is_path.false (λ h. omega arith) _ _ c.apply_change.ensures
