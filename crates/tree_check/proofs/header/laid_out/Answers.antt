-- `laid_out` is `laid_out` of the bytes of the node.
-- Relies on Layout: one law for each test that may fail.
use Rattle.image.specs.Prelude.{arith}
use Rattle.tree_check.specs.Layout.{laid-long, laid-kind, laid-level, laid-zero, laid-rest}
use Rattle.tree_check.proofs.header.laid_out.Goals as goal

pub returns-then-len-gt-ENTRIES_LIMIT : goal.returns-then-len-gt-ENTRIES_LIMIT
returns-then-len-gt-ENTRIES_LIMIT c = laid-long c.args.store.now c.args.num c.args.kind c.args.level c.requires _ c.read_length-len.ensures.0 (omega arith)

pub returns-then-read_kind-kind : goal.returns-then-read_kind-kind
returns-then-read_kind-kind c = laid-kind c.args.store.now c.args.num c.args.kind c.args.level c.requires c.read_kind.result c.read_kind.ensures.0 (λ h. omega arith)

pub returns-then-read_level-level : goal.returns-then-read_level-level
returns-then-read_level-level c = laid-level c.args.store.now c.args.num c.args.kind c.args.level c.requires c.read_level.result c.read_level.ensures.0 (λ h. omega arith)

pub returns-then-u16_at-ne0 : goal.returns-then-u16_at-ne0
returns-then-u16_at-ne0 c = laid-zero c.args.store.now c.args.num c.args.kind c.args.level c.requires c.u16_at.result c.u16_at.ensures.0 (λ h. omega arith)

pub returns : goal.returns
returns c = laid-rest c.args.store.now c.args.num c.args.kind c.args.level c.requires c.read_length-len.result c.read_kind.result c.read_level.result c.u16_at.result c.read_length-len.ensures.0 (omega arith) c.read_kind.ensures.0 (omega arith) c.read_level.ensures.0 (omega arith) c.u16_at.ensures.0 (omega arith) _ c.all_zero.ensures
