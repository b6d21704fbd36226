-- `emit_half` meets its contract: the node under the path, then the pieces. Relies on specs/Code.
use Rattle.swing.specs.Code.{path_room, parts-room, half-done}
use Rattle.swing.proofs.root.emit_half.Goals as goal

pub push-requires : goal.push-requires
push-requires c = (path_room _ _ _ _ c.requires.1, c.requires.0.small_number)

pub emit_parts-requires : goal.emit_parts-requires
emit_parts-requires c = (c.requires.0.fit, parts-room _ _ _ _ c.requires.1 _ c.push.ensures, c.requires.0.small_edge, c.requires.0.small_rest)

pub returns : goal.returns
returns c = half-done _ _ _ _ c.requires.1 _ c.push.ensures _ c.emit_parts.ensures
