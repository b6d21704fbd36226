-- `next_fit` meets its contract. Relies on specs/Asked and specs/Steps.
use Rattle.std.specs.Prelude.{refl, length}
use Rattle.image.specs.Prelude.{arith, ap}
use Rattle.image.specs.Calls.{next}
use Rattle.query.specs.Asked.{malformed-path, short-buffer, nothing-there, something-there, refused-short, found-short}
use Rattle.query.specs.Steps.{next-short, next-room, path-absent, path-there}
use Rattle.query.proofs.next_fit.Goals as goal

pub returns-then-not-paths_fit : goal.returns-then-not-paths_fit
returns-then-not-paths_fit c = record { meets = malformed-path c.args.store.now (next c.args.path.now c.args.after.now) c.args.buffer.now c.requires.0 c.requires.1 _ c.paths_fit.ensures c.if-not-paths_fit.true; short = refused-short _ _ }

pub returns-then-buffer-lt-PATH_LIMIT : goal.returns-then-buffer-lt-PATH_LIMIT
returns-then-buffer-lt-PATH_LIMIT c = record { meets = short-buffer c.args.store.now (next c.args.path.now c.args.after.now) c.args.buffer.now c.requires.0 c.requires.1 _ c.paths_fit.ensures c.if-not-paths_fit.false (next-short c.args.path.now c.args.after.now c.args.buffer.now (omega arith)); short = refused-short _ _ }

pub next_path-requires : goal.next_path-requires
next_path-requires c = c.requires.1

pub returns-in_default : goal.returns-in_default
returns-in_default c = record { meets = nothing-there c.args.store.now (next c.args.path.now c.args.after.now) c.args.buffer.now c.requires.0 c.requires.1 _ c.paths_fit.ensures c.if-not-paths_fit.false (next-room c.args.path.now c.args.after.now c.args.buffer.now (omega arith)) (path-absent _ _ _ c.in_default.ensures); short = refused-short _ _ }

pub copy_at-requires : goal.copy_at-requires
copy_at-requires c = let l = ap length c.as_slice-next.ensures.held in omega (arith, c.as_slice-next.ensures.short)

pub returns : goal.returns
returns c = record { meets = something-there c.args.store.now (next c.args.path.now c.args.after.now) c.args.buffer.now c.requires.0 c.requires.1 _ c.paths_fit.ensures c.if-not-paths_fit.false (next-room c.args.path.now c.args.after.now c.args.buffer.now (omega arith)) _ _ _ (path-there _ _ _ _ _ c.in-Some.ensures c.as_slice-next.ensures.held) refl c.copy_at.ensures; short = found-short _ _ (let l = ap length c.as_slice-next.ensures.held in omega (arith, c.as_slice-next.ensures.short)) }
