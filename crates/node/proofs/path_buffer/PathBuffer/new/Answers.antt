-- `new` meets its contract: the buffer is of zeros.
use Rattle.std.specs.Prelude.{refl}
use Rattle.image.specs.Prelude.{arith}
use Rattle.octets.specs.Put.{put}
use Rattle.node.proofs.path_buffer.PathBuffer.new.Goals as goal

pub invariant_of-result : goal.invariant_of-result
unfolding put
invariant_of-result c = (omega arith, refl, refl)
