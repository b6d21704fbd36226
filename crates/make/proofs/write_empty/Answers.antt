-- `write_empty` meets its contract: node 0 and one leaf. Relies on specs/Steps.
use Rattle.image.specs.Prelude.{arith}
use Rattle.make.specs.Emptied.{two-nodes}
use Rattle.make.specs.Steps.{writes-empty}
use Rattle.make.proofs.write_empty.Goals as goal

pub write_header-requires : goal.write_header-requires
write_header-requires c = let z = two-nodes _ c.requires in (omega (arith, z.0), omega (arith, z.1), omega arith, omega arith, omega arith)

pub write_empty_leaf-requires : goal.write_empty_leaf-requires
write_empty_leaf-requires c = let z = two-nodes _ c.requires in (omega (arith, z.0), omega (arith, z.1))

pub returns : goal.returns
returns c = writes-empty c.args.store.now _ _ c.write_header.ensures c.write_empty_leaf.ensures
