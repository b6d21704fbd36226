-- `write_pairs` meets its contract: a pair is written if the test says so of its key. Relies on specs/PairSteps and push/specs/WriteSteps.

use Rattle.image.specs.Prelude.{sym, ap, ◌∙◌}
use Rattle.laws.specs.Page.{page}
use Rattle.laws.specs.WriteNode.{write_node}
use Rattle.slice.specs.PairSteps.{pushed-pair, side-none, side-other, side-not, side-yes}
use Rattle.push.specs.WriteSteps.{page-fits, page-on, page-ends, page-stays}
use Rattle.slice.proofs.pairs.write_pairs.Goals as goal

pub push-requires : goal.push-requires
push-requires g c =
    let t = c.requires.2 in (
      page-fits _ _ _ _ _ (side-yes t.0 c.args.d _ _ _ c.in-Some.ensures.steps _ _ c.in-Pair.is (sym c.if-keeps.true ∙ t.1 _ _ c.keeps.ensures)) (c.loop-entry.invariant.1 t.0 t.1) _
          (pushed-pair _ _ _ c.past.ensures) t.2,
      tt,
    )

pub loop-entry-preserved-then-keeps : goal.loop-entry-preserved-then-keeps
loop-entry-preserved-then-keeps g c = (
  c.requires.0,
  λ test t. page-on _ _ _ _ _ (side-yes test c.args.d _ _ _ c.in-Some.ensures.steps _ _ c.in-Pair.is (sym c.if-keeps.true ∙ t _ _ c.keeps.ensures)) (c.loop-entry.invariant.1 test t) _ _
      (pushed-pair _ _ _ c.past.ensures) c.push.ensures,
)

pub loop-entry-preserved-else-keeps : goal.loop-entry-preserved-else-keeps
loop-entry-preserved-else-keeps g c =
    (c.requires.0, λ test t. page-stays _ _ _ _ (side-not test c.args.d _ _ _ c.in-Some.ensures.steps _ _ c.in-Pair.is (sym c.if-keeps.false ∙ t _ _ c.keeps.ensures)) (c.loop-entry.invariant.1 test t))

pub loop-entry-preserved : goal.loop-entry-preserved
loop-entry-preserved g c =
    (c.requires.0, λ test t. page-stays _ _ _ _ (side-other test c.args.d _ _ _ c.in-Some.ensures.steps c.in_default.not-Pair) (c.loop-entry.invariant.1 test t))

pub returns : goal.returns
returns g c = λ test t.
    c.write.ensures ∙ ap (λ l. write_node c.args.store.now c.args.num (page 1 1 l)) (page-ends _ _ _ (side-none test c.args.d _ c.in-None.ensures.steps.0) (c.loop-entry.invariant.1 test t))
