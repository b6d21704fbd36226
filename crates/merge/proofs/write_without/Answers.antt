-- `write_without` meets its contract. Relies on specs/EmitSteps.
use Rattle.image.specs.Prelude.{arith}
use Rattle.merge.specs.EmitSteps.{others-fit, without-written}
use Rattle.merge.proofs.write_without.Goals as goal

pub emit_others-requires : goal.emit_others-requires
emit_others-requires c = (c.requires.small, others-fit _ _ _ c.new-page.ensures c.requires.fits)

pub write-requires : goal.write-requires
write-requires c = (c.requires.inside, omega arith, c.requires.low)

pub returns : goal.returns
returns c = without-written _ _ _ _ _ _ _ _ c.new-page.ensures c.emit_others.ensures c.write.ensures
