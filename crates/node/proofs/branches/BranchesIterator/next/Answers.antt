-- `next` gives the children in turn. Relies on specs/Spans.
use Rattle.std.specs.Prelude.{refl, ◌∷◌}
use Rattle.image.specs.Prelude.{ap, ◌∙◌}
use Rattle.node.specs.Search.Own.{branch}
use Rattle.node.specs.Lent.{left_of}
use Rattle.node.specs.Spans.{pending, high-pending, high-last}
use Rattle.node.proofs.branches.BranchesIterator.next.Goals.{in-Some, in-None}
use Rattle.node.proofs.branches.BranchesIterator.next.Goals as goal

pub returns-clause-steps : goal.returns-clause-steps
returns-clause-steps c = record {
  first = ap (λ f. pending f (left_of c.args.self.now.behind)) c.in_ok-number.was ∙ ap (λ ks. branch c.in_ok-number.number c.in_ok-number.low.now ∷ ks) c.read_front.ensures;
  ends = elim c.match-front.branch [
    | in-Some w ↦ rw w.high-is (high-pending _ _ _ _ w.in-Some.is)
    | in-None w ↦ rw w.high-is (high-last _ _ _ w.in-None.is)
  ];
  keeps = refl;
}
