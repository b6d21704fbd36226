-- `take_range` meets its contract, by direction. Relies on specs/Code.
use Rattle.std.specs.Prelude.{refl}
use Rattle.swing.specs.Code.{up-asked, up_done, down-asked, down-done}
use Rattle.swing.proofs.take_range.Goals as goal

pub take_out-requires : goal.take_out-requires
take_out-requires c = up-asked _ _ _ _ _ _ c.requires _ c.if-up.true refl

pub returns-then-up : goal.returns-then-up
returns-then-up c = up_done _ _ _ _ _ _ c.requires _ _ c.if-up.true refl c.take_out.ensures

pub take_out-requires-2 : goal.take_out-requires-2
take_out-requires-2 c = down-asked _ _ _ _ _ _ c.requires _ c.if-up.false refl

pub returns : goal.returns
returns c = down-done _ _ _ _ _ _ c.requires _ _ c.if-up.false refl c.take_out-2.ensures
