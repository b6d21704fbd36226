-- `fed` meets its contract, by the tests on the byte and on the numbers so far. Relies on specs/Fed.
use Rattle.image.specs.Prelude.{arith}
use Rattle.path.specs.Fed.{fed-on}
use Rattle.path.proofs.fed.Goals as goal

pub returns-in-33-to-46 : goal.returns-in-33-to-46
returns-in-33-to-46 c =
    let p = c.in_ok-components.field-0 in
    fed-on _ p.components p.here p.bytes _ c.in_ok-components.was (omega arith) (grind arith) (grind arith) (λ h. grind arith) (omega arith)
