-- `visit` meets its contract, by the test that the path fails, or by none. Relies on specs/Sought.
use Rattle.std.proofs.Common.{ap, not}
use Rattle.std.specs.Prelude.{refl}
use Rattle.successor.specs.Sought.{wanted-long, try-unwanted, try-fit, try-long, try-absent, try-found, sought-path}
use Rattle.successor.proofs.seek.SeekVisitor.visit.Goals as goal

pub returns-then-not-is_wanted : goal.returns-then-not-is_wanted
returns-then-not-is_wanted c = sought-path _ _ _ refl refl refl refl (try-unwanted _ _ _ _ _ _ _ c.is_wanted.ensures (ap not c.if-not-is_wanted.true))

pub is_unfit-requires : goal.is_unfit-requires
is_unfit-requires c = wanted-long _ _ _ _ _ _ c.is_wanted.ensures (ap not c.if-not-is_wanted.false)

pub returns-then-not-is_unfit : goal.returns-then-not-is_unfit
returns-then-not-is_unfit c =
    sought-path _ _ _ refl refl refl refl (try-fit _ _ _ _ _ _ _ c.is_wanted.ensures (ap not c.if-not-is_wanted.false) _ c.is_unfit.ensures (ap not c.if-not-is_unfit.true))

pub returns-in_default : goal.returns-in_default
returns-in_default c =
    sought-path _ _ _ refl refl refl refl (try-long _ _ _ _ _ _ _ c.is_wanted.ensures (ap not c.if-not-is_wanted.false) _ c.is_unfit.ensures (ap not c.if-not-is_unfit.false) c.args.self.now.whole c.in_default.ensures)

pub returns-in_default-value_of : goal.returns-in_default-value_of
returns-in_default-value_of c =
    sought-path _ _ _ refl refl refl refl (try-absent _ _ _ _ _ _ _ c.is_wanted.ensures (ap not c.if-not-is_wanted.false) _ c.is_unfit.ensures (ap not c.if-not-is_unfit.false) _ _ c.in-Some.ensures c.as_slice.ensures.held c.in_default-value_of.ensures)

pub returns : goal.returns
returns c =
    sought-path _ _ _ refl refl refl refl (try-found _ _ _ _ _ _ _ c.is_wanted.ensures (ap not c.if-not-is_wanted.false) _ c.is_unfit.ensures (ap not c.if-not-is_unfit.false) _ _ c.in-Some.ensures c.as_slice.ensures.held _ c.in-Some-value_of.ensures)
