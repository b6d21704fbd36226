-- `tell_both` meets its contract, by whether a child is left. Relies on specs/PieceSteps.
use Rattle.std.proofs.Common.{rules}
use Rattle.image.specs.Prelude.{ap, arith}
use Rattle.node.specs.Lent.{left_of}
use Rattle.node.specs.Spans.{pending}
use Rattle.slice.specs.PieceSteps.{told, told-edge, told-rest, edge-is, rest-is, first-short}
use Rattle.slice.proofs.right.tell_both.Goals as goal

pub copy_at-requires-2 : goal.copy_at-requires-2
copy_at-requires-2 c =
    let q = first-short _ _ _ (ap (λ f. pending f (left_of c.args.children.behind)) c.in-Some.is) c.requires.0 in let h = c.requires.1 in omega arith

pub returns : goal.returns
returns c =
    let q = first-short _ _ _ (ap (λ f. pending f (left_of c.args.children.behind)) c.in-Some.is) c.requires.0 in
    let h = c.requires.1 in
    told-rest _ _ _ _ _ _ _ (ap (λ f. pending f (left_of c.args.children.behind)) c.in-Some.is) (rest-is _ _ _ c.has_any-edge.ensures) (search rules)
    (told _ _ _ _ _ (omega arith) c.copy_at.ensures c.copy_at-2.ensures)

pub returns-in_default : goal.returns-in_default
returns-in_default c = told-edge _ _ _ _ _ (ap (λ f. pending f (left_of c.args.children.behind)) c.in_default.is) (edge-is _ _ c.has_any-edge.ensures)
