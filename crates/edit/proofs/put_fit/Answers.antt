-- `edit::put_fit` meets its contract, question by question. Relies on specs/Edited.
use Rattle.std.specs.Prelude.{refl}
use Rattle.image.specs.Prelude.{arith}
use Rattle.edit.specs.Edited.{put-malformed, put-long, put_full, put-fits, put-done}
use Rattle.edit.specs.Known.{known-put}
use Rattle.edit.proofs.put_fit.Goals as goal

pub returns-then-not-is_path : goal.returns-then-not-is_path
returns-then-not-is_path c = put-malformed c.args.store.now c.args.work.now c.requires.0.whole c.requires.0.is_sound c.requires.0.long c.args.path.now _ c.is_path.ensures c.args.value.now c.if-not-is_path.true

pub returns-then-value-gt-VALUE_LIMIT : goal.returns-then-value-gt-VALUE_LIMIT
returns-then-value-gt-VALUE_LIMIT c = put-long c.args.store.now c.args.work.now c.requires.0.whole c.requires.0.is_sound c.requires.0.long c.args.path.now _ c.is_path.ensures c.if-not-is_path.false c.args.value.now (omega arith)

pub returns-then-store-count : goal.returns-then-store-count
returns-then-store-count c = put_full c.args.store.now c.args.work.now c.requires.0.whole c.requires.0.is_sound c.requires.0.long c.args.path.now _ c.is_path.ensures c.if-not-is_path.false c.args.value.now (omega arith) _ _ refl c.count_with-count.ensures (omega arith)

pub apply_change-requires : goal.apply_change-requires
apply_change-requires c = (c.requires.0, c.requires.1, put-fits c.args.store.now c.args.work.now c.requires.0.whole c.requires.0.is_sound c.requires.0.long c.args.path.now _ c.is_path.ensures c.if-not-is_path.false c.args.value.now (omega arith) _ _ refl c.count_with-count.ensures (omega arith), known-put _ c.args.value.now _ _ c.count_with-count.ensures)

pub returns : goal.returns
returns c = put-done c.args.store.now c.args.work.now c.requires.0.whole c.requires.0.is_sound c.requires.0.long c.args.path.now _ c.is_path.ensures c.if-not-is_path.false c.args.value.now (omega arith) _ _ refl c.count_with-count.ensures (omega arith) _ _ c.apply_change.ensures
