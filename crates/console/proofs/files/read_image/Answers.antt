-- What is_sound requires: a store of 65,536 bytes is a whole number of nodes.
use Rattle.std.proofs.Common.{arith}
use Rattle.script.specs.Answered.{whole-64}
use Rattle.console.proofs.files.read_image.Goals as goal

pub is_sound-requires : goal.is_sound-requires
is_sound-requires c = whole-64 _ (omega arith)
