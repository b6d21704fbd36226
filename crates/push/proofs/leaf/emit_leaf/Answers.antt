-- `emit_leaf` meets its contract, by the kind of the message. Relies on specs/LeafSteps.
use Rattle.std.proofs.Common.{rules, of_calls}
use Rattle.std.specs.Prelude.{not, ◌++◌}
use Rattle.laws.specs.Encode.{bytes_of_all}
use Rattle.image.specs.Bytes.{before, same, begins}
use Rattle.image.specs.Prelude.{ap, ◌∙◌}
use Rattle.push.specs.LeafSteps.{first_fits, second_fits, third-fits, with-put, put-leaves, drop-leaves, clear-leaves, fits-as}
use Rattle.push.proofs.leaf.emit_leaf.Goals as goal

pub emit_pairs-requires : goal.emit_pairs-requires
emit_pairs-requires c =
    (search of_calls, ((λ q. before q c.in-Put.key.now), λ k b h. search rules, first_fits _ _ _ _ (fits-as _ _ _ (put-leaves _ _ _ _ c.in-Put.is) c.requires)))

pub push-requires : goal.push-requires
push-requires c =
    (second_fits _ _ _ _ (fits-as _ _ _ (put-leaves _ _ _ _ c.in-Put.is) c.requires) _ (c.emit_pairs.ensures (λ q. before q c.in-Put.key.now) (λ k b h. search rules)), tt)

pub emit_pairs-requires-in-Put : goal.emit_pairs-requires-in-Put
emit_pairs-requires-in-Put c = (
  search of_calls,
  (
    (λ q. before c.in-Put.key.now q),
    λ k b h. search rules,
    third-fits _ _ _ _ (fits-as _ _ _ (put-leaves _ _ _ _ c.in-Put.is) c.requires) _ (c.emit_pairs.ensures (λ q. before q c.in-Put.key.now) (λ k b h. search rules)) _ c.push.ensures,
  ),
)

pub emit_pairs-requires-in-Drop : goal.emit_pairs-requires-in-Drop
emit_pairs-requires-in-Drop c =
    (search of_calls, ((λ q. not (same c.in-Drop.key.now q)), λ k b h. search rules, fits-as _ _ _ (drop-leaves _ _ _ c.in-Drop.is) c.requires))

pub emit_pairs-requires-in-Clear : goal.emit_pairs-requires-in-Clear
emit_pairs-requires-in-Clear c =
    (search of_calls, ((λ q. not (begins c.in-Clear.key.now q)), λ k b h. search rules, fits-as _ _ _ (clear-leaves _ _ _ c.in-Clear.is) c.requires))

pub returns-in-Put : goal.returns-in-Put
returns-in-Put c =
    with-put _ _ _ _ (fits-as _ _ _ (put-leaves _ _ _ _ c.in-Put.is) c.requires) _ (c.emit_pairs.ensures (λ q. before q c.in-Put.key.now) (λ k b h. search rules)) _ c.push.ensures _
    (c.emit_pairs-in-Put.ensures (λ q. before c.in-Put.key.now q) (λ k b h. search rules))
    ∙ ap (λ l. c.args.page.now ++ bytes_of_all l) (put-leaves _ _ _ _ c.in-Put.is)

pub returns-in-Drop : goal.returns-in-Drop
returns-in-Drop c =
    c.emit_pairs-in-Drop.ensures (λ q. not (same c.in-Drop.key.now q)) (λ k b h. search rules)
    ∙ ap (λ l. c.args.page.now ++ bytes_of_all l) (drop-leaves _ _ _ c.in-Drop.is)

pub returns-in-Clear : goal.returns-in-Clear
returns-in-Clear c =
    c.emit_pairs-in-Clear.ensures (λ q. not (begins c.in-Clear.key.now q)) (λ k b h. search rules)
    ∙ ap (λ l. c.args.page.now ++ bytes_of_all l) (clear-leaves _ _ _ c.in-Clear.is)
