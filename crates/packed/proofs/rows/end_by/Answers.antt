-- `end_by` meets its contract: its loop keeps an invariant. Relies on specs/Form/Chunk.
use Rattle.image.specs.Prelude.{sym, ◌∙◌, arith}
use Rattle.packed.specs.Form.Chunk.{end-done, end-stop, end_on}
use Rattle.packed.proofs.rows.end_by.Goals as goal

pub returns-then-sum-w-gt-ENTRIES_LIMIT-clause-meant : goal.returns-then-sum-w-gt-ENTRIES_LIMIT-clause-meant
returns-then-sum-w-gt-ENTRIES_LIMIT-clause-meant g c = λ weight told.
    sym (c.loop-t.invariant.1 weight told
    ∙ end-stop weight c.args.m c.loop-t.t c.loop-t.sum c.weigh-w.result (omega arith) (told _ _ (omega arith) c.weigh-w.ensures) (omega arith))

pub loop-t-preserved : goal.loop-t-preserved
loop-t-preserved g c = (
  omega arith,
  λ weight told.
      c.loop-t.invariant.1 weight told
      ∙ end_on weight c.args.m c.loop-t.t c.loop-t.sum c.weigh-w.result (omega arith) (told _ _ (omega arith) c.weigh-w.ensures) (omega arith),
)

pub returns-clause-meant : goal.returns-clause-meant
returns-clause-meant g c = λ weight told. sym (c.loop-t.invariant.1 weight told ∙ end-done weight c.args.m c.loop-t.t c.loop-t.sum (omega arith) ∙ (omega arith))
