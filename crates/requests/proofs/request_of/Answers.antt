-- `request_of` meets its contract, kind by kind. Relies on specs/Steps.
use Rattle.requests.specs.Steps.{put-none, put-some, move-none, move-some, next-none, next-some, flush-none, flush-some, heal-none, heal-some, kind-other}
use Rattle.image.specs.Prelude.{arith}
use Rattle.requests.proofs.request_of.Goals as goal

pub returns-in_err-path-in-32 : goal.returns-in_err-path-in-32
returns-in_err-path-in-32 c = rw (c.from_residual.ensures, c.in-32.is) (put-none _ c.in_err-path-in-32.ensures)

pub returns-in_ok-path-in-32 : goal.returns-in_ok-path-in-32
returns-in_ok-path-in-32 c = rw c.in-32.is (put-some _ _ _ c.in_ok-path-in-32.ensures)

pub returns-in_err-from-in-36 : goal.returns-in_err-from-in-36
returns-in_err-from-in-36 c = rw (c.from_residual-in_err-from-in-36.ensures, c.in-36.is) (move-none _ c.in_err-from-in-36.ensures)

pub returns-in_ok-from-in-36 : goal.returns-in_ok-from-in-36
returns-in_ok-from-in-36 c = rw c.in-36.is (move-some _ _ _ c.in_ok-from-in-36.ensures)

pub returns-in_err-path-in-49 : goal.returns-in_err-path-in-49
returns-in_err-path-in-49 c = rw (c.from_residual-in_err-path-in-49.ensures, c.in-49.is) (next-none _ c.in_err-path-in-49.ensures)

pub returns-in_ok-path-in-49 : goal.returns-in_ok-path-in-49
returns-in_ok-path-in-49 c = rw c.in-49.is (next-some _ _ _ c.in_ok-path-in-49.ensures)

pub returns-in_err-read_node-in-66 : goal.returns-in_err-read_node-in-66
returns-in_err-read_node-in-66 c = rw (c.from_residual-in_err-read_node-in-66.ensures, c.in-66.is) (flush-none _ c.in_err-read_node-in-66.ensures)

pub returns-in_ok-read_node-in-66 : goal.returns-in_ok-read_node-in-66
returns-in_ok-read_node-in-66 c = rw c.in-66.is (flush-some _ _ c.in_ok-read_node-in-66.ensures)

pub returns-in_err-read_node-in-67 : goal.returns-in_err-read_node-in-67
returns-in_err-read_node-in-67 c = rw (c.from_residual-in_err-read_node-in-67.ensures, c.in-67.is) (heal-none _ c.in_err-read_node-in-67.ensures)

pub returns-in_ok-read_node-in-67 : goal.returns-in_ok-read_node-in-67
returns-in_ok-read_node-in-67 c = rw c.in-67.is (heal-some _ _ c.in_ok-read_node-in-67.ensures)

pub returns-in_default : goal.returns-in_default
returns-in_default c = kind-other _ _ (λ h. omega arith) (λ h. omega arith) (λ h. omega arith) (λ h. omega arith) (λ h. omega arith) (λ h. omega arith) (λ h. omega arith) (λ h. omega arith) (λ h. omega arith) (λ h. omega arith)
