-- `write_longer_pair` meets its contract: four writes, one after the other, are one entry.
-- Relies on specs/Writer.
use Rattle.std.proofs.Common.{rules}
use Rattle.std.specs.Prelude.{◌+◌}
use Rattle.image.specs.Prelude.{arith, sym, ap}
use Rattle.node.specs.Writer.{pair-length, longer-pair-put}
use Rattle.node.proofs.writer.write_longer_pair.Goals as goal

pub overflow_add-n-2 : goal.overflow_add-n-2
overflow_add-n-2 c = let l = pair-length c.args.more.now c.args.key.now c.args.value.now in omega arith

pub overflow_add-n-3 : goal.overflow_add-n-3
overflow_add-n-3 c = let l = pair-length c.args.more.now c.args.key.now c.args.value.now in omega arith

pub write_head-requires : goal.write_head-requires
write_head-requires c = let l = pair-length c.args.more.now c.args.key.now c.args.value.now in (omega arith, omega arith, omega arith, omega arith, omega arith)

pub copy_at-requires : goal.copy_at-requires
copy_at-requires c = let l = pair-length c.args.more.now c.args.key.now c.args.value.now in search rules

pub copy_at-requires-2 : goal.copy_at-requires-2
copy_at-requires-2 c = let l = pair-length c.args.more.now c.args.key.now c.args.value.now in search rules

pub overflow_add-at-5 : goal.overflow_add-at-5
overflow_add-at-5 c = let l = pair-length c.args.more.now c.args.key.now c.args.value.now in omega arith

pub copy_at-requires-3 : goal.copy_at-requires-3
copy_at-requires-3 c = let l = pair-length c.args.more.now c.args.key.now c.args.value.now in search rules

pub overflow_add-result : goal.overflow_add-result
overflow_add-result c = let l = pair-length c.args.more.now c.args.key.now c.args.value.now in omega arith

pub overflow_add-result-2 : goal.overflow_add-result-2
overflow_add-result-2 c = let l = pair-length c.args.more.now c.args.key.now c.args.value.now in omega arith

pub overflow_add-result-3 : goal.overflow_add-result-3
overflow_add-result-3 c = let l = pair-length c.args.more.now c.args.key.now c.args.value.now in omega arith

pub returns : goal.returns
returns c = (longer-pair-put c.args.page.now _ _ _ _ c.args.more.now c.args.key.now c.args.value.now c.args.at c.requires.0 c.write_head.ensures c.copy_at.ensures c.copy_at-2.ensures c.copy_at-3.ensures, ap (λ z. c.args.at + z) (sym (pair-length c.args.more.now c.args.key.now c.args.value.now)))
