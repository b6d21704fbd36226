-- `write_root` meets its contract: what lies left, then the halves. Relies on specs/Code.
use Rattle.std.specs.Prelude.{refl}
use Rattle.std.proofs.Common.{rules}
use Rattle.swing.specs.Code.{num-room, left-room, low-room, high-room, root-done}
use Rattle.image.specs.Prelude.{arith}
use Rattle.swing.proofs.root.write_root.Goals as goal

pub push-requires : goal.push-requires
push-requires c = (left-room _ _ _ _ _ _ _ _ _ c.requires _ _ refl refl _ c.new-page.ensures, search rules)

pub emit_half-requires : goal.emit_half-requires
emit_half-requires c = (c.requires.lower, low-room _ _ _ _ _ _ _ _ _ c.requires _ _ refl refl _ c.new-page.ensures _ c.push.ensures)

pub emit_half-requires-2 : goal.emit_half-requires-2
emit_half-requires-2 c = (c.requires.higher, high-room _ _ _ _ _ _ _ _ _ c.requires _ _ refl refl _ c.new-page.ensures _ c.push.ensures _ c.emit_half.ensures)

pub write-requires : goal.write-requires
write-requires c = let l = c.requires.levels in (num-room _ _ _ _ _ _ _ _ _ c.requires _ _ refl refl, omega arith, omega arith)

pub returns : goal.returns
returns c = root-done _ _ _ _ _ _ _ _ _ c.requires _ _ refl refl _ c.new-page.ensures _ c.push.ensures _ c.emit_half.ensures _ c.emit_half-2.ensures _ c.write.ensures
