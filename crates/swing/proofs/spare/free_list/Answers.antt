-- `free_list` meets its contract: its loop keeps an invariant. Relies on specs/Spare/SpareSteps.
use Rattle.image.specs.Prelude.{ap₂, ◌∙◌, arith}
use Rattle.packed.specs.Build.Handed.{listed}
use Rattle.swing.specs.Spare.SpareSteps.{list-first, note-marked, note-unmarked, list-more, list-last}
use Rattle.swing.proofs.spare.free_list.Goals as goal
use Rattle.swing.proofs.spare.free_list.Goals.{then-seen-i-eq0, else-seen-i-eq0}

pub loop-i-init : goal.loop-i-init
loop-i-init c = (omega arith, omega arith, list-first _ _ _)

pub loop-i-preserved : goal.loop-i-preserved
loop-i-preserved c =
    elim c.if-seen-i-eq0.branch [
      | then-seen-i-eq0 w ↦ (
        omega arith,
        omega arith,
        list-more _ _ _ _ _ _ _ _ (omega arith) c.loop-i.invariant.2
            (ap₂ (λ r b. listed r b 0) w.count-is w.numbers-is ∙ note-unmarked _ _ _ _ (omega arith) w.if-seen-i-eq0.true),
      )
      | else-seen-i-eq0 w ↦ (
        omega arith,
        omega arith,
        list-more _ _ _ _ _ _ _ _ (omega arith) c.loop-i.invariant.2
            (ap₂ (λ r b. listed r b 0) w.count-is w.numbers-is ∙ note-marked _ _ _ _ w.if-seen-i-eq0.false),
      )
    ]

pub returns : goal.returns
returns c = (list-last _ _ _ _ _ _ (omega arith) c.loop-i.invariant.2, omega arith)
