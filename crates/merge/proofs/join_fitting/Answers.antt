-- `join_fitting` meets its contract. Relies on specs/JoinSteps.
use Rattle.std.proofs.Common.{rules}
use Rattle.image.specs.Prelude.{sym, ◌∙◌}
use Rattle.merge.specs.JoinSteps.{not-joined, are-joined, room-stays}
use Rattle.merge.proofs.join_fitting.Goals as goal

pub pair_fits-requires : goal.pair_fits-requires
pair_fits-requires c = (c.requires.1, c.requires.2)

pub returns-then-not-pair_fits : goal.returns-then-not-pair_fits
returns-then-not-pair_fits c = not-joined _ _ _ _ _ _ _ _ _ (search rules)

pub write_left-requires : goal.write_left-requires
write_left-requires c = sym c.pair_fits.ensures ∙ c.if-not-pair_fits.false

pub write_without-requires : goal.write_without-requires
write_without-requires c = room-stays _ _ _ _ _ (search rules) c.requires.0

pub returns : goal.returns
returns c = are-joined _ _ _ _ _ _ _ _ _ (search rules) _ _ c.write_left.ensures c.write_without.ensures
