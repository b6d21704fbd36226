-- `past_sign` meets its contract, by the class of the byte. Relies on specs/Reads.
use Rattle.path.specs.Reads.{byte-empty, byte-wide, byte-end, byte_low, byte-over, byte-sign}
use Rattle.image.specs.Prelude.{arith}
use Rattle.path.proofs.Reading.past_sign.Goals as goal

pub returns-in-0 : goal.returns-in-0
returns-in-0 c = byte-end _ _ _ c.in-0.is (omega arith) (omega arith)

pub returns-in-33-to-46 : goal.returns-in-33-to-46
returns-in-33-to-46 c = byte-sign _ _ _ (omega arith) (omega arith) (λ h. omega arith)

pub returns-in_default : goal.returns-in_default
returns-in_default c = byte-wide _ _ _ c.in-0.is (omega arith)

pub returns-in_default-2 : goal.returns-in_default-2
returns-in_default-2 c = byte-empty _ _ _ c.in-0.is (omega arith)

pub returns-in_default-3 : goal.returns-in_default-3
returns-in_default-3 c = byte_low _ _ _ (λ h. omega arith) (omega arith)

pub returns-in_default-4 : goal.returns-in_default-4
returns-in_default-4 c = byte-over _ _ _ (omega arith) c.requires.2
