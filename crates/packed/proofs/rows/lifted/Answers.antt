-- `lifted` meets its contract. Relies on specs/Build/PairLaws.
use Rattle.std.specs.Prelude.{length}
use Rattle.image.specs.Prelude.{sym, ap₂, ◌∙◌, arith}
use Rattle.image.specs.Bytes.{shared}
use Rattle.packed.specs.Build.PairLaws.{high_end, high-key, lifts-are}
use Rattle.packed.proofs.rows.lifted.Goals as goal

pub returns-then-j-m : goal.returns-then-j-m
returns-then-j-m c =
    c.common_length.ensures.0
    ∙ ap₂ (λ x y. length (shared x y)) c.low_pivot-low.ensures.0 (sym (high_end c.args.m c.args.area.now c.args.j (omega arith)))
    ∙ lifts-are c.args.m c.args.area.now c.args.i c.args.j

pub returns : goal.returns
returns c =
    c.common_length-2.ensures.0
    ∙ ap₂ (λ x y. length (shared x y)) c.low_pivot-low.ensures.0
    (c.row_at.ensures.path_is ∙ sym (high-key c.args.m c.args.area.now c.args.j (omega arith)))
    ∙ lifts-are c.args.m c.args.area.now c.args.i c.args.j
