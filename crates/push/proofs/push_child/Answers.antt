-- `push_child` meets its contract, by the kind of the child. Relies on specs/LeafSteps.
use Rattle.image.specs.Prelude.{arith}
use Rattle.push.specs.Laws.Only.{room-inside}
use Rattle.push.specs.LeafSteps.{leaf-child, interior-child}
use Rattle.push.proofs.push_child.Goals as goal

pub overflow_mul-child : goal.overflow_mul-child
overflow_mul-child c = let i = room-inside _ _ _ _ _ c.requires in omega arith

pub read_kind-kind-requires : goal.read_kind-kind-requires
read_kind-kind-requires c = let i = room-inside _ _ _ _ _ c.requires in omega arith

pub returns-then-kind-eq-LEAF : goal.returns-then-kind-eq-LEAF
returns-then-kind-eq-LEAF c = leaf-child _ _ _ _ _ _ c.read_kind-kind.result c.read_kind-kind.ensures.0 (omega arith) c.push_leaf.ensures

pub returns-else-kind-eq-LEAF : goal.returns-else-kind-eq-LEAF
returns-else-kind-eq-LEAF c = interior-child _ _ _ _ _ _ c.read_kind-kind.result c.read_kind-kind.ensures.0 (λ h. omega arith) c.push_interior.ensures
