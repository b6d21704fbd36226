-- `write_narrow` meets its contract: a page of the pieces and the children. Relies on specs/PieceSteps.
use Rattle.image.specs.Prelude.{ap, arith}
use Rattle.std.specs.Prelude.{length, refl}
use Rattle.slice.specs.PieceSteps.{narrow-room, narrow-first, narrow-second, narrow-page, narrow-done, one-told}
use Rattle.slice.proofs.right.write_narrow.Goals as goal

pub emit_parts-requires : goal.emit_parts-requires
emit_parts-requires c =
    let p = c.number_pieces-numbered.ensures in
    let f = narrow-first _ _ _ _ _ _ _ _ _ c.requires _ _ _ p.1 p.2 c.common_length-d.ensures.0 in
    let z = ap length c.new-page.ensures in (rw p.0 c.requires.fit, rw p.0 (omega arith), p.3, p.4)

pub emit_branches-requires : goal.emit_branches-requires
emit_branches-requires c =
    let p = c.number_pieces-numbered.ensures in
    (narrow-second _ _ _ _ _ _ _ _ _ c.requires _ _ _ p.1 p.2 c.common_length-d.ensures.0 _ _ c.new-page.ensures (rw p.0 at c.emit_parts.ensures), c.requires.numbers)

pub write_some-edge-requires : goal.write_some-edge-requires
write_some-edge-requires c = let p = c.requires.levels in (narrow-room _ _ _ _ _ _ _ _ _ c.requires _ _ _ c.number_pieces-numbered.ensures.1 c.number_pieces-numbered.ensures.2 c.common_length-d.ensures.0 _ refl, omega arith)

pub returns : goal.returns
returns c =
    let p = c.number_pieces-numbered.ensures in
    let e = rw p.0 at c.emit_parts.ensures in (
      narrow-done _ _ _ _ _ _ _ _ _ c.requires _ _ _ p.1 p.2 c.common_length-d.ensures.0 _ _ c.new-page.ensures e _ c.emit_branches.ensures _ refl _ _ c.write_some-edge.ensures.0,
      one-told _ _ _ _ (narrow-page _ _ _ _ _ _ _ _ _ c.requires _ _ _ p.1 p.2 c.common_length-d.ensures.0 _ _ c.new-page.ensures e _ c.emit_branches.ensures) c.write_some-edge.ensures.1,
    )
