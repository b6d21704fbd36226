-- `get_fit` meets its contract. Relies on specs/Asked and specs/Steps.
use Rattle.std.specs.Prelude.{refl}
use Rattle.image.specs.Prelude.{arith}
use Rattle.image.specs.Calls.{get}
use Rattle.query.specs.Asked.{malformed-path, short-buffer, nothing-there, something-there, refused-short, found-short}
use Rattle.query.specs.Steps.{get-path, get-short, get-room, value_there, value-absent}
use Rattle.query.proofs.get_fit.Goals as goal

pub returns-then-not-is_path : goal.returns-then-not-is_path
returns-then-not-is_path c = record { meets = malformed-path c.args.store.now (get c.args.path.now) c.args.buffer.now c.requires.0 c.requires.1 _ (get-path _ _ c.is_path.ensures) c.if-not-is_path.true; short = refused-short _ _ }

pub returns-then-buffer-lt-VALUE_LIMIT : goal.returns-then-buffer-lt-VALUE_LIMIT
returns-then-buffer-lt-VALUE_LIMIT c = record { meets = short-buffer c.args.store.now (get c.args.path.now) c.args.buffer.now c.requires.0 c.requires.1 _ (get-path _ _ c.is_path.ensures) c.if-not-is_path.false (get-short c.args.path.now c.args.buffer.now (omega arith)); short = refused-short _ _ }

pub value_of-requires : goal.value_of-requires
value_of-requires c = c.requires.1

pub returns-in_default : goal.returns-in_default
returns-in_default c = record { meets = nothing-there c.args.store.now (get c.args.path.now) c.args.buffer.now c.requires.0 c.requires.1 _ (get-path _ _ c.is_path.ensures) c.if-not-is_path.false (get-room c.args.path.now c.args.buffer.now (omega arith)) (value-absent _ _ c.requires.1 c.in_default.ensures); short = refused-short _ _ }

pub copy_at-requires : goal.copy_at-requires
copy_at-requires c = let v = value_there _ c.args.path.now _ c.requires.1 c.in-Some.ensures in omega (arith, v.short)

pub returns : goal.returns
returns c = let v = value_there _ c.args.path.now _ c.requires.1 c.in-Some.ensures in record { meets = something-there c.args.store.now (get c.args.path.now) c.args.buffer.now c.requires.0 c.requires.1 _ (get-path _ _ c.is_path.ensures) c.if-not-is_path.false (get-room c.args.path.now c.args.buffer.now (omega arith)) _ _ _ v.there refl c.copy_at.ensures; short = found-short _ _ (omega (arith, v.short)) }
