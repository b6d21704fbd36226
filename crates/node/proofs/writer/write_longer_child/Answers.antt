-- `write_longer_child` meets its contract: three writes, one after the other, are one entry.
-- Relies on specs/Writer.
use Rattle.std.proofs.Common.{rules}
use Rattle.std.specs.Prelude.{◌+◌}
use Rattle.image.specs.Prelude.{arith, sym, ap}
use Rattle.node.specs.Writer.{child-length, longer-child-put}
use Rattle.node.proofs.writer.write_longer_child.Goals as goal

pub overflow_add-n-2 : goal.overflow_add-n-2
overflow_add-n-2 c = let l = child-length c.args.number c.args.more.now c.args.key.now in omega arith

pub write_head-requires : goal.write_head-requires
write_head-requires c = let l = child-length c.args.number c.args.more.now c.args.key.now in (omega arith, omega arith, omega arith, omega arith, omega arith)

pub copy_at-requires : goal.copy_at-requires
copy_at-requires c = let l = child-length c.args.number c.args.more.now c.args.key.now in search rules

pub copy_at-requires-2 : goal.copy_at-requires-2
copy_at-requires-2 c = let l = child-length c.args.number c.args.more.now c.args.key.now in search rules

pub overflow_add-result : goal.overflow_add-result
overflow_add-result c = let l = child-length c.args.number c.args.more.now c.args.key.now in omega arith

pub overflow_add-result-2 : goal.overflow_add-result-2
overflow_add-result-2 c = let l = child-length c.args.number c.args.more.now c.args.key.now in omega arith

pub returns : goal.returns
returns c = (longer-child-put c.args.page.now _ _ _ c.args.more.now c.args.key.now c.args.at c.args.number c.requires.0 c.write_head.ensures c.copy_at.ensures c.copy_at-2.ensures, ap (λ z. c.args.at + z) (sym (child-length c.args.number c.args.more.now c.args.key.now)))
