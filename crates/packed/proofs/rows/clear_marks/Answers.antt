-- `clear_marks` meets its contract: its loop keeps an invariant. Relies on specs/Rows/Puts and specs/Rows/Remark.
use Rattle.std.proofs.Common.{ap}
use Rattle.std.specs.Prelude.{◌+◌, ◌-◌, length}
use Rattle.image.specs.Prelude.{sym, ap, ◌∙◌, arith}
use Rattle.packed.specs.Rows.Puts.{put-length}
use Rattle.packed.specs.Rows.Remark.{clear_marks, clear_step, clear-done}
use Rattle.packed.proofs.rows.clear_marks.Goals as goal

pub loop-i-preserved : goal.loop-i-preserved
loop-i-preserved c = (
  omega arith,
  ap length c.put_mark.ensures ∙ put-length _ _ _ ∙ c.loop-i.invariant.1,
  c.loop-i.invariant.2 ∙ clear_step _ _ _ (omega arith) ∙ ap (λ x. clear_marks (c.args.to - (c.loop-i.i + 1)) x (c.loop-i.i + 1)) (sym c.put_mark.ensures),
)

pub returns : goal.returns
returns c = sym (c.loop-i.invariant.2 ∙ clear-done _ _ _ (omega arith))
