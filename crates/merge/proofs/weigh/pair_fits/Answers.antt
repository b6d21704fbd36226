-- `pair_fits` meets its contract. Relies on specs/WeighSteps.
use Rattle.std.specs.Prelude.{refl}
use Rattle.image.specs.Prelude.{arith, ◌∙◌}
use Rattle.merge.specs.WeighSteps.{left-short, right-short, one-heavy, both-told}
use Rattle.merge.proofs.weigh.pair_fits.Goals as goal

pub weigh_node-requires : goal.weigh_node-requires
weigh_node-requires c = (left-short _ _ _ _ c.left_more.ensures c.requires.0, omega arith)

pub returns-in_default : goal.returns-in_default
returns-in_default c = one-heavy _ _ _ _ _ _ _ _ c.left_more.ensures refl c.in_default.ensures

pub weigh_node-both-requires : goal.weigh_node-both-requires
weigh_node-both-requires c = (right-short _ _ _ _ c.right_more.ensures c.requires.1, c.in-Some.ensures.1)

pub returns : goal.returns
returns c = c.is_some.ensures ∙ both-told _ _ _ _ _ _ _ _ c.left_more.ensures c.right_more.ensures _ c.in-Some.ensures.0 _ c.weigh_node-both.ensures
