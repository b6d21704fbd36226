-- `len` meets its contract. Relies on specs/Content.
use Rattle.image.specs.Prelude.{sym}
use Rattle.node.specs.Content.{seen-length}
use Rattle.node.proofs.page.Page.len.Goals as goal

pub returns : goal.returns
returns c = sym (seen-length _ _ c.self.invariant _ c.self.view_is)
