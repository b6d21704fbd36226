-- `swing_over` meets its contract: the ends of the two ranges are laid down. Relies on specs/Asked.
use Rattle.swing.specs.Asked.{end-laid, past-plan, over_done}
use Rattle.std.specs.Prelude.{refl}
use Rattle.swing.proofs.swing_over.Goals as goal

pub swing_between-requires : goal.swing_between-requires
swing_between-requires c = past-plan _ _ _ _ _ _ _ c.requires (end-laid c.args.p.now _ _ _ refl c.put_past.ensures) (end-laid c.args.r.now _ _ _ refl c.put_past-2.ensures)

pub returns : goal.returns
returns c = over_done _ _ c.args.p.now c.args.r.now _ _ _ c.args.up (end-laid c.args.p.now _ _ _ refl c.put_past.ensures) (end-laid c.args.r.now _ _ _ refl c.put_past-2.ensures) c.swing_between.ensures
