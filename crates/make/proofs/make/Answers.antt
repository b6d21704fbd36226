-- `make` meets its contract. Relies on specs/Steps.
use Rattle.std.proofs.Common.{rules}
use Rattle.image.specs.Prelude.{not-true}
use Rattle.make.specs.Steps.{make-refused, make-done, still-whole}
use Rattle.make.proofs.make.Goals as goal

pub returns-then-not-whole_nodes : goal.returns-then-not-whole_nodes
returns-then-not-whole_nodes c = search (rules, make-refused, not-true)

pub write_empty-requires : goal.write_empty-requires
write_empty-requires c = still-whole _ _ _ c.whole_nodes.ensures c.if-not-whole_nodes.false (search rules)

pub returns : goal.returns
returns c = make-done _ _ _ _ c.whole_nodes.ensures c.if-not-whole_nodes.false (search rules) c.write_empty.ensures
