-- `all_zero` is `zeros`. The invariant: all is zero just when the bytes read and those left are.
-- Relies on Layout.
use Rattle.std.specs.Prelude.{refl}
use Rattle.image.specs.Prelude.{arith}
use Rattle.tree_check.specs.Layout.{zeros-on, zeros-done}
use Rattle.tree_check.proofs.header.all_zero.Goals as goal

pub loop-byte-init : goal.loop-byte-init
loop-byte-init c = refl

pub loop-byte-preserved : goal.loop-byte-preserved
loop-byte-preserved c = zeros-on c.args.bytes.now c.loop-byte.byte-index c.loop-byte.most _ (omega arith) c.max-most.ensures c.loop-byte.invariant

pub returns : goal.returns
returns c = zeros-done c.args.bytes.now c.loop-byte.byte-index c.loop-byte.most (omega arith) c.loop-byte.invariant
