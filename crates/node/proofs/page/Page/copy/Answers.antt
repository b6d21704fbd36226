-- `copy` meets its contract. Relies on specs/Content.
use Rattle.std.specs.Prelude.{refl}
use Rattle.image.specs.Prelude.{arith}
use Rattle.node.specs.Content.{seen-length, seen-behind, holds-behind}
use Rattle.node.proofs.page.Page.copy.Goals as goal

pub copy_at-requires : goal.copy_at-requires
copy_at-requires c = let l = seen-length _ _ c.self.invariant _ c.self.view_is in
    let t = c.self.told in
    omega arith

pub invariant_of-self : goal.invariant_of-self
invariant_of-self c = holds-behind _ _ c.self.invariant _ c.self.view_is _ _ _ c.requires c.copy_at.ensures refl

pub returns : goal.returns
returns c = seen-behind _ _ c.self.invariant _ c.self.view_is _ _ _ c.requires c.copy_at.ensures refl
