-- `past` meets its contract: a letter past `/`, or what `past_sign` says of the byte. Relies on specs/Reads.
use Rattle.path.specs.Reads.{byte-letter}
use Rattle.image.specs.Prelude.{arith}
use Rattle.path.proofs.Reading.past.Goals as goal

pub returns-in-48-to-126 : goal.returns-in-48-to-126
returns-in-48-to-126 c = byte-letter _ _ _ (omega arith) (omega arith)
