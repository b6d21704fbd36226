-- `emit_entry` meets its contract, by the kind of the entry. Relies on specs/EmitSteps.
use Rattle.std.specs.Prelude.{◌++◌}
use Rattle.image.specs.Prelude.{ap, ◌∙◌}
use Rattle.merge.specs.EmitSteps.{as-pair, as-child, as-message, small-child, small-is, fits-by}
use Rattle.merge.proofs.emit.emit_entry.Goals as goal

pub push_longer_pair-requires : goal.push_longer_pair-requires
push_longer_pair-requires c = fits-by _ _ _ (as-pair _ _ _ _ c.in-Pair.is) c.requires.1

pub push_longer_child-requires : goal.push_longer_child-requires
push_longer_child-requires c = (fits-by _ _ _ (as-child _ _ _ _ c.in-Child.is) c.requires.1, small-child _ _ _ c.requires.0 c.in-Child.is)

pub push-requires : goal.push-requires
push-requires c = (fits-by _ _ _ (as-message _ _ _ c.in-Message.is) c.requires.1, small-is _ c.requires.0)

pub returns-in-Pair : goal.returns-in-Pair
returns-in-Pair c = c.push_longer_pair.ensures ∙ ap (λ l. c.args.page.now ++ l) (as-pair _ _ _ _ c.in-Pair.is)

pub returns-in-Child : goal.returns-in-Child
returns-in-Child c = c.push_longer_child.ensures ∙ ap (λ l. c.args.page.now ++ l) (as-child _ _ _ _ c.in-Child.is)

pub returns-in-Message : goal.returns-in-Message
returns-in-Message c = c.push.ensures ∙ ap (λ l. c.args.page.now ++ l) (as-message _ _ _ c.in-Message.is)
