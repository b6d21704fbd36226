-- `write_wide` meets its contract: a node over the pieces, then one over the children. Relies on specs/PieceSteps.
use Rattle.image.specs.Prelude.{ap, ◌∙◌, sym, arith}
use Rattle.std.specs.Prelude.{length, refl, ◌++◌}
use Rattle.node.specs.Spans.{pending_of}
use Rattle.slice.specs.Right.{all_line}
use Rattle.slice.specs.PieceSteps.{wide-rooms, wide-first, wide-second, wide-done}
use Rattle.slice.proofs.right.write_wide.Goals as goal

pub emit_parts-requires : goal.emit_parts-requires
emit_parts-requires c =
    let p = c.number_pieces-numbered.ensures in
    let f = wide-first _ _ _ _ _ _ _ _ _ c.requires _ _ _ 0 p.1 p.2 _ c.first_pivot-pivot.ensures c.common_length-d.ensures.0 in
    let z = ap length c.new-edge.ensures in (rw p.0 c.requires.fit, rw p.0 (omega arith), p.3, p.4)

pub emit_branches-requires : goal.emit_branches-requires
emit_branches-requires c =
    let p = c.number_pieces-numbered.ensures in
    let f = wide-second _ _ _ _ _ _ _ _ _ c.requires _ _ _ _ p.1 p.2 _ c.first_pivot-pivot.ensures c.common_length-d.ensures.0 c.common_length-e.ensures.0 in
    let z = ap length c.new-rest.ensures in (omega arith, c.requires.numbers)

pub write_some-requires : goal.write_some-requires
write_some-requires c =
    let p = c.number_pieces-numbered.ensures in
    let r = wide-rooms _ _ _ _ _ _ _ _ _ c.requires _ _ 0 0 p.1 p.2 _ _ refl refl in let v = c.requires.levels in (r.0, omega arith)

pub write_some-requires-2 : goal.write_some-requires-2
write_some-requires-2 c =
    let p = c.number_pieces-numbered.ensures in
    let r = wide-rooms _ _ _ _ _ _ _ _ _ c.requires _ _ 0 0 p.1 p.2 _ _ refl refl in let v = c.requires.levels in (omega arith, omega arith)

pub returns : goal.returns
returns c =
    let p = c.number_pieces-numbered.ensures in
    wide-done _ _ _ _ _ _ _ _ _ c.requires _ _ _ _ p.1 p.2 _ c.first_pivot-pivot.ensures c.common_length-d.ensures.0 c.common_length-e.ensures.0
    _ _ refl refl _ _ _ _ _ _ c.new-edge.ensures (rw p.0 at c.emit_parts.ensures) (c.emit_branches.ensures ∙ ap (λ l. l ++ all_line c.common_length-e.result (pending_of c.args.children)) (c.new-rest.ensures ∙ sym c.new-edge.ensures))
    c.write_some.ensures.0 c.write_some-2.ensures.0
