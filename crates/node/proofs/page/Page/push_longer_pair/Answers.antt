-- `push_longer_pair` meets its contract. Relies on specs/Content.
use Rattle.image.specs.Prelude.{arith}
use Rattle.node.specs.Content.{seen-length, seen-behind, holds-behind}
use Rattle.node.proofs.page.Page.push_longer_pair.Goals as goal

pub write_longer_pair-end-requires : goal.write_longer_pair-end-requires
write_longer_pair-end-requires c = let l = seen-length _ _ c.self.invariant _ c.self.view_is in
    let t = c.self.told in
    (omega arith, omega arith)

pub invariant_of-self : goal.invariant_of-self
invariant_of-self c = let r = c.write_longer_pair-end.ensures.1 in
    holds-behind _ _ c.self.invariant _ c.self.view_is _ _ _ c.requires c.write_longer_pair-end.ensures.0 (omega arith)

pub returns : goal.returns
returns c = let r = c.write_longer_pair-end.ensures.1 in
    seen-behind _ _ c.self.invariant _ c.self.view_is _ _ _ c.requires c.write_longer_pair-end.ensures.0 (omega arith)
