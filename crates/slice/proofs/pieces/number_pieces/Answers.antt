-- `number_pieces` meets its contract: two numbers of the list of free nodes.
use Rattle.std.proofs.Common.{rules}
use Rattle.slice.specs.Point.{fresh_in}
use Rattle.slice.proofs.pieces.number_pieces.Goals as goal

pub returns : goal.returns
unfolding fresh_in
returns c = search rules
