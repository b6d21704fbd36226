-- `entry_of` meets its contract, kind by kind. Relies on specs/Lent and specs/Entries.
use Rattle.node.specs.Lent.{pair-none, pair-some, put-none, put-some}
use Rattle.node.specs.Entries.{kind-drop, kind-clear, kind-other}
use Rattle.image.specs.Prelude.{arith}
use Rattle.node.proofs.entries.entry_of.Goals as goal

pub returns-in_err-key-in-1 : goal.returns-in_err-key-in-1
returns-in_err-key-in-1 c = rw (c.from_residual.ensures, c.in-1.is) (pair-none _ c.in_err-key-in-1.ensures)

pub returns-in_err-key-in-32 : goal.returns-in_err-key-in-32
returns-in_err-key-in-32 c = rw (c.from_residual-in_err-key-in-32.ensures, c.in-32.is) (put-none _ c.in_err-key-in-32.ensures)

pub returns-in_ok-key-in-1 : goal.returns-in_ok-key-in-1
returns-in_ok-key-in-1 c = rw c.in-1.is (pair-some _ _ _ c.in_ok-key-in-1.ensures)

pub returns-in_ok-key-in-32 : goal.returns-in_ok-key-in-32
returns-in_ok-key-in-32 c = rw c.in-32.is (put-some _ _ _ c.in_ok-key-in-32.ensures)

pub returns-in-33 : goal.returns-in-33
returns-in-33 c = kind-drop _ _ c.in-33.is

pub returns-in-34 : goal.returns-in-34
returns-in-34 c = kind-clear _ _ c.in-34.is

pub returns-in_default : goal.returns-in_default
returns-in_default c = kind-other _ _ (λ h. omega arith) (λ h. omega arith) (λ h. omega arith) (λ h. omega arith) (λ h. omega arith)
