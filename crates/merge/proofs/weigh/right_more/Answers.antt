-- `right_more` meets its contract. Relies on specs/WeighSteps.
use Rattle.std.specs.Prelude.{refl, drop}
use Rattle.image.specs.Prelude.{ap₂, ◌∙◌}
use Rattle.merge.specs.Laws.Joined.{right_more}
use Rattle.merge.specs.WeighSteps.{lifted-part}
use Rattle.merge.proofs.weigh.right_more.Goals as goal

pub returns : goal.returns
unfolding right_more
returns c = c.past.ensures ∙ ap₂ (λ n l. drop n l) c.common_length-2.ensures.0 (lifted-part _ _ _ _ c.common_length.ensures.0 refl)
