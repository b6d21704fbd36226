-- `holds_path` meets its contract: the length, then the lookup in the other store, then in the store itself (specs/Steps).
use Rattle.image.specs.Prelude.{sym, ◌∙◌}
use Rattle.inclusion.specs.Steps.{path-long, path-found, path-missing, path-removed}
use Rattle.inclusion.proofs.Inclusion.holds_path.Goals as goal

pub returns-in_default : goal.returns-in_default
returns-in_default c = path-long _ _ _ c.args.self.now.whole.0 c.in_default.ensures

pub returns-then-is_some : goal.returns-then-is_some
returns-then-is_some c = path-found _ _ _ _ _ c.in-Some.ensures c.as_slice-path.ensures.held _ c.value_of.ensures (sym c.is_some.ensures ∙ c.if-is_some.true)

pub returns-then-is_some-2 : goal.returns-then-is_some-2
returns-then-is_some-2 c = path-missing _ _ _ _ _ c.in-Some.ensures c.as_slice-path.ensures.held _ _ c.value_of.ensures c.value_of-2.ensures (sym c.is_some.ensures ∙ c.if-is_some.false) (sym c.is_some-2.ensures ∙ c.if-is_some-2.true)

pub returns : goal.returns
returns c = path-removed _ _ _ _ _ c.in-Some.ensures c.as_slice-path.ensures.held _ c.value_of-2.ensures (sym c.is_some-2.ensures ∙ c.if-is_some-2.false)
