-- `emit_pairs` meets its contract: a pair is written if the test says so of its key. Relies on specs/LeafSteps and specs/WriteSteps.
use Rattle.std.specs.Prelude.{refl, ◌++◌}
use Rattle.image.specs.Prelude.{sym, ap, ◌∙◌}
use Rattle.laws.specs.Encode.{bytes_of_all}
use Rattle.node.specs.Lent.{left_of}
use Rattle.push.specs.Laws.Leaves.{kept}
use Rattle.push.specs.LeafSteps.{kept-none, kept-other, kept-not, kept-yes, pair-small}
use Rattle.push.specs.WriteSteps.{page-fits, page-on, page-ends, page-stays, whole-fits}
use Rattle.push.proofs.leaf.emit_pairs.Goals as goal

pub loop-entry-init : goal.loop-entry-init
loop-entry-init g c =
    (c.requires.0, λ test t. ap (λ it. c.args.page.now ++ bytes_of_all (kept test (left_of it))) c.into_iter-entry-iterator.ensures.into_iter_gives)

pub push-requires : goal.push-requires
push-requires g c =
    let t = c.requires.1 in (
      page-fits _ _ _ _ _ (kept-yes t.0 _ _ _ c.in-Some.ensures.steps _ _ c.in-Pair.is (sym c.if-keeps.true ∙ t.1 _ _ c.keeps.ensures)) (c.loop-entry.invariant.1 t.0 t.1) _ refl
          (whole-fits _ _ t.2),
      pair-small t.0 _ _ _ c.in-Some.ensures.steps _ _ c.in-Pair.is,
    )

pub loop-entry-preserved-then-keeps : goal.loop-entry-preserved-then-keeps
loop-entry-preserved-then-keeps g c =
    (c.requires.0, λ test t. page-on _ _ _ _ _ (kept-yes test _ _ _ c.in-Some.ensures.steps _ _ c.in-Pair.is (sym c.if-keeps.true ∙ t _ _ c.keeps.ensures)) (c.loop-entry.invariant.1 test t) _ _ refl c.push.ensures)

pub loop-entry-preserved-else-keeps : goal.loop-entry-preserved-else-keeps
loop-entry-preserved-else-keeps g c =
    (c.requires.0, λ test t. page-stays _ _ _ _ (kept-not test _ _ _ c.in-Some.ensures.steps _ _ c.in-Pair.is (sym c.if-keeps.false ∙ t _ _ c.keeps.ensures)) (c.loop-entry.invariant.1 test t))

pub loop-entry-preserved : goal.loop-entry-preserved
loop-entry-preserved g c =
    (c.requires.0, λ test t. page-stays _ _ _ _ (kept-other test _ _ _ c.in-Some.ensures.steps c.in_default.not-Pair) (c.loop-entry.invariant.1 test t))

pub returns : goal.returns
returns g c = λ test t. page-ends _ _ _ (kept-none test _ c.in-None.ensures.steps.0) (c.loop-entry.invariant.1 test t)
