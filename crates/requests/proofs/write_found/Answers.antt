-- `write_found` meets its contract. Relies on specs/Steps.
use Rattle.requests.specs.Steps.{found-written, refusal-written, found-room, copy-room}
use Rattle.image.specs.Prelude.{arith}
use Rattle.laws.specs.Refusals.{refusal-few}
use Rattle.requests.proofs.write_found.Goals as goal

pub write_head-requires : goal.write_head-requires
write_head-requires c = let z = found-room _ _ _ _ _ c.in-Ok.is c.requires.0 c.requires.1 c.requires.2 in (omega (arith, z.0), z.2, omega arith)

pub slice_bounds-copy_at-end : goal.slice_bounds-copy_at-end
slice_bounds-copy_at-end c = let z = found-room _ _ _ _ _ c.in-Ok.is c.requires.0 c.requires.1 c.requires.2 in omega (arith, z.1)

pub copy_at-requires : goal.copy_at-requires
copy_at-requires c = let z = found-room _ _ _ _ _ c.in-Ok.is c.requires.0 c.requires.1 c.requires.2 in copy-room _ _ c.args.buffer.now _ _ z.0 z.1 c.write_head.ensures

pub overflow_add-result-in-Ok : goal.overflow_add-result-in-Ok
overflow_add-result-in-Ok c = let z = found-room _ _ _ _ _ c.in-Ok.is c.requires.0 c.requires.1 c.requires.2 in omega (arith, z.0)

pub returns-in-Ok : goal.returns-in-Ok
returns-in-Ok c = let z = found-room _ _ _ _ _ c.in-Ok.is c.requires.0 c.requires.1 c.requires.2 in found-written _ _ _ c.args.buffer.now _ _ _ c.in-Ok.is z.0 z.1 c.write_head.ensures c.copy_at.ensures

pub write_head-requires-in-Err : goal.write_head-requires-in-Err
write_head-requires-in-Err c = let few = refusal-few c.in-Err.refusal in (omega arith, omega arith, omega (arith, c.from.ensures))

pub returns-in-Err : goal.returns-in-Err
returns-in-Err c = refusal-written _ _ c.args.buffer.now _ _ _ _ c.in-Err.is c.from.ensures c.write_head-in-Err.ensures
