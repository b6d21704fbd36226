-- `write_leaf` meets its contract.
-- Relies on specs/Build/PairLaws and specs/Build/PairSteps.
use Rattle.packed.specs.Rows.Area.{fit-fewer}
use Rattle.std.proofs.Common.{rules}
use Rattle.packed.specs.Build.PairLaws.{bytes-of}
use Rattle.packed.specs.Build.PairSteps.{leaf-written}
use Rattle.laws.specs.Page.{zeros_of}
use Rattle.image.specs.Prelude.{arith}
use Rattle.packed.proofs.write_leaf.Goals as goal

pub emit_rows-end-requires : goal.emit_rows-end-requires
emit_rows-end-requires c = let q = bytes-of c.args.m c.args.area.now c.args.i c.args.j c.lifted-k.result c.lifted-k.ensures in (fit-fewer _ _ _ (omega arith) c.requires.0, omega arith, omega arith, omega arith)

pub write_page-requires : goal.write_page-requires
write_page-requires c = let q = bytes-of c.args.m c.args.area.now c.args.i c.args.j c.lifted-k.result c.lifted-k.ensures in (search rules, search rules, search rules, search rules, omega arith)

pub returns : goal.returns
unfolding zeros_of
returns c = leaf-written c.args.store.now _ c.args.num c.args.m c.args.area.now c.args.i c.args.j c.lifted-k.result c.lifted-k.ensures (omega arith)
    _ _ c.emit_rows-end.ensures.0 c.emit_rows-end.ensures.1 c.write_page.ensures
