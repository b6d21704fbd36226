-- `first_child` reads the first entry of an interior node.
-- Relies on First: one law for each exit.
use Rattle.tree_check.specs.First.{not-laid, no-child, other-pivot, first-child}
use Rattle.tree_check.specs.Layout.{laid-entries}
use Rattle.image.specs.Prelude.{sym, ◌∙◌}
use Rattle.tree_check.proofs.first_child.Goals as goal

pub returns-then-not-laid_out : goal.returns-then-not-laid_out
returns-then-not-laid_out c = not-laid c.args.store.now c.args.num c.args.level c.args.lo.now c.requires _ c.laid_out.ensures c.if-not-laid_out.true

pub of_node-entries-requires : goal.of_node-entries-requires
of_node-entries-requires c = (laid-entries _ _ 2 c.args.level c.requires (sym c.laid_out.ensures ∙ c.if-not-laid_out.false)).0

pub returns-in_err-child : goal.returns-in_err-child
returns-in_err-child c = rw c.from_residual.ensures (no-child c.args.store.now c.args.num c.args.level c.args.lo.now c.requires _ c.laid_out.ensures c.if-not-laid_out.false _ c.of_node-entries.ensures.bytes c.in_err-child.ensures)

pub returns-then-not-equal : goal.returns-then-not-equal
returns-then-not-equal c = other-pivot c.args.store.now c.args.num c.args.level c.args.lo.now c.requires _ c.laid_out.ensures c.if-not-laid_out.false _ c.of_node-entries.ensures.bytes _ _ _ c.in_ok-child.ensures c.equal.result c.equal.ensures c.if-not-equal.true

pub returns : goal.returns
returns c = first-child c.args.store.now c.args.num c.args.level c.args.lo.now c.requires _ c.laid_out.ensures c.if-not-laid_out.false _ c.of_node-entries.ensures.bytes _ _ _ c.in_ok-child.ensures c.equal.result c.equal.ensures c.if-not-equal.false
