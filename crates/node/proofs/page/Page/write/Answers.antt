-- `write` meets its contract. Relies on specs/Content and specs/Pages.
use Rattle.image.specs.Prelude.{arith, ap, ◌∙◌}
use Rattle.std.specs.Prelude.{◌≡◌, ◌+◌, ◌-◌}
use Rattle.laws.specs.Page.{zeros_of}
use Rattle.octets.specs.Put.{put}
use Rattle.node.specs.Content.{seen-length}
use Rattle.node.specs.Pages.{page-written}
use Rattle.node.proofs.page.Page.write.Goals as goal

pub returns : goal.returns
returns c = let s = c.self.invariant.short in
    let l = seen-length _ _ c.self.invariant _ c.self.view_is in
    page-written c.args.store.now _ c.self.inside.bytes c.args.num c.args.kind c.args.level (8 + c.self.inside.len) c.args.self.now (omega arith)
    (c.self.invariant.laid ∙ ap (λ x. put (zeros_of 1024) 8 x) c.self.view_is) (omega arith)
    (let e : 8 + c.self.inside.len - 8 ≡ c.self.inside.len = omega arith in rw e c.write_page.ensures)
