-- `emit_parts` meets its contract: the edge, if there is one, then the rest, if there is one. Relies on specs/PieceSteps.
use Rattle.std.specs.Prelude.{◌++◌, ◌≡◌}
use Rattle.image.specs.Prelude.{sym, ap, ◌∙◌, append-nil}
use Rattle.slice.specs.Right.{all_line, edge_piece, rest_piece}
use Rattle.slice.specs.PieceSteps.{pieces-line, edge-yes, edge-no, rest-yes, rest-no, push-first, push-on, push-nothing, push-last, push-behind}
use Rattle.slice.proofs.pieces.emit_parts.Goals.{then-parts, else-parts}
use Rattle.slice.proofs.pieces.emit_parts.Goals as goal

pub push-requires : goal.push-requires
push-requires c = (
  push-first _ _ _ _ _ _ (pieces-line _ _ _ _ _ _ ∙ ap (λ l. l ++ all_line c.args.d (rest_piece c.args.pieces.rest c.args.out.now c.args.pieces.parts.rest)) (edge-yes _ _ _ _ c.if-parts.true))
      c.past.ensures c.requires.1,
  c.requires.2,
)

pub push-requires-in-Some : goal.push-requires-in-Some
push-requires-in-Some c =
    let first : c.if-parts.page ≡ c.args.page.now ++ all_line c.args.d (edge_piece c.args.pieces.edge c.args.k.now c.args.pieces.parts.edge) =
    elim c.if-parts.branch [
      | then-parts w ↦ w.page-is ∙ push-on _ _ _ _ _ (edge-yes _ _ _ _ w.if-parts.true) w.past.ensures _ w.push.ensures
      | else-parts w ↦ w.page-is ∙ push-nothing _ _ (edge-no _ _ _ _ w.if-parts.false)
    ] in (
      push-last _ _ _ _ _ _ _ first
          (pieces-line _ _ _ _ _ _ ∙ ap (λ l. all_line c.args.d (edge_piece c.args.pieces.edge c.args.k.now c.args.pieces.parts.edge) ++ l) (rest-yes _ _ _ _ _ c.in-Some.is))
          c.past-in-Some.ensures c.requires.1,
      c.requires.3,
    )

pub returns-in-Some : goal.returns-in-Some
returns-in-Some c =
    let first : c.if-parts.page ≡ c.args.page.now ++ all_line c.args.d (edge_piece c.args.pieces.edge c.args.k.now c.args.pieces.parts.edge) =
    elim c.if-parts.branch [
      | then-parts w ↦ w.page-is ∙ push-on _ _ _ _ _ (edge-yes _ _ _ _ w.if-parts.true) w.past.ensures _ w.push.ensures
      | else-parts w ↦ w.page-is ∙ push-nothing _ _ (edge-no _ _ _ _ w.if-parts.false)
    ] in
    push-behind _ _ _ _ _ _ _ first
    (pieces-line _ _ _ _ _ _ ∙ ap (λ l. all_line c.args.d (edge_piece c.args.pieces.edge c.args.k.now c.args.pieces.parts.edge) ++ l) (rest-yes _ _ _ _ _ c.in-Some.is))
    c.past-in-Some.ensures _ c.push-in-Some.ensures

pub returns-in_default : goal.returns-in_default
returns-in_default c =
    let first : c.if-parts.page ≡ c.args.page.now ++ all_line c.args.d (edge_piece c.args.pieces.edge c.args.k.now c.args.pieces.parts.edge) =
    elim c.if-parts.branch [
      | then-parts w ↦ w.page-is ∙ push-on _ _ _ _ _ (edge-yes _ _ _ _ w.if-parts.true) w.past.ensures _ w.push.ensures
      | else-parts w ↦ w.page-is ∙ push-nothing _ _ (edge-no _ _ _ _ w.if-parts.false)
    ] in
    first
    ∙ ap (λ l. c.args.page.now ++ l)
    (sym (append-nil (all_line c.args.d (edge_piece c.args.pieces.edge c.args.k.now c.args.pieces.parts.edge)))
    ∙ ap (λ l. all_line c.args.d (edge_piece c.args.pieces.edge c.args.k.now c.args.pieces.parts.edge) ++ l) (sym (rest-no _ _ _ _ c.in_default.is))
    ∙ sym (pieces-line _ _ _ _ _ _))
