-- `append::root_at` meets its contract: the root of an image that is sound but for its count lies in the store.
use Rattle.append.specs.WriteSteps.{long, root-place}
use Rattle.image.specs.Prelude.{arith}
use Rattle.append.proofs.root_at.Goals as goal

pub read_root-root-requires : goal.read_root-root-requires
read_root-root-requires c = let l = long c.args.store.now c.requires in omega arith

pub returns : goal.returns
returns c = root-place _ _ c.requires c.read_root-root.ensures.0
