-- `write_some` meets its contract: nothing is written of a page with no entries. Relies on specs/PieceSteps.
use Rattle.slice.specs.PieceSteps.{over_none, told_none, over-some, told-some}
use Rattle.image.specs.Prelude.{sym, ◌∙◌}
use Rattle.slice.proofs.pieces.write_some.Goals as goal

pub returns-then-len-eq0 : goal.returns-then-len-eq0
returns-then-len-eq0 c = (over_none _ _ _ _ (sym c.len.ensures ∙ c.if-len-eq0.true), told_none 0 0 _ c.args.store.now (sym c.len.ensures ∙ c.if-len-eq0.true))

pub returns : goal.returns
returns c = (over-some _ _ _ _ _ (λ e. c.if-len-eq0.false (c.len.ensures ∙ e)) c.write.ensures, told-some 0 0 _ c.args.store.now (λ e. c.if-len-eq0.false (c.len.ensures ∙ e)))
