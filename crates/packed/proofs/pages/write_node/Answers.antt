-- `write_node` meets its contract.
-- Relies on specs/Pages/Nodes.
use Rattle.packed.specs.Rows.Area.{fit-fewer}
use Rattle.std.proofs.Common.{rules}
use Rattle.image.specs.Prelude.{◌∙◌, arith}
use Rattle.laws.specs.Page.{zeros_of}
use Rattle.packed.specs.Pages.Nodes.{bytes-of, inner-written, lifts-alike}
use Rattle.packed.proofs.pages.write_node.Goals as goal

pub emit_branches-end-requires : goal.emit_branches-end-requires
emit_branches-end-requires c = let q = bytes-of c.args.m c.args.area.now c.args.i c.args.j c.lifted-k.result (c.lifted-k.ensures ∙ lifts-alike c.args.m c.args.area.now c.args.i c.args.j (omega arith) (omega arith) c.requires.3) in (fit-fewer _ _ _ (omega arith) c.requires.0, omega arith, omega arith, omega arith)

pub write_page-requires : goal.write_page-requires
write_page-requires c = let q = bytes-of c.args.m c.args.area.now c.args.i c.args.j c.lifted-k.result (c.lifted-k.ensures ∙ lifts-alike c.args.m c.args.area.now c.args.i c.args.j (omega arith) (omega arith) c.requires.3) in (search rules, search rules, search rules, search rules, omega arith)

pub returns : goal.returns
unfolding zeros_of
returns c = inner-written c.args.store.now _ c.args.num c.args.level c.args.m c.args.area.now c.args.i c.args.j c.lifted-k.result (c.lifted-k.ensures ∙ lifts-alike c.args.m c.args.area.now c.args.i c.args.j (omega arith) (omega arith) c.requires.3) (omega arith)
    _ _ c.emit_branches-end.ensures.0 c.emit_branches-end.ensures.1 c.write_page.ensures
