-- `ask_later` meets its contract: both paths are well formed where question 9 is asked.
use Rattle.std.proofs.Common.{ap, not}
use Rattle.image.specs.Prelude.{sym, ◌∙◌, not-false}
use Rattle.rename.proofs.going.ask_later.Goals as goal

pub stays_formed-requires : goal.stays_formed-requires
stays_formed-requires c = (c.requires, sym c.is_path.ensures ∙ not-false _ (ap not c.if-not-is_path.false), sym c.is_path-2.ensures ∙ not-false _ (ap not c.if-not-is_path-2.false))
