-- `batch::answer_query` meets its contract. Relies on specs/Steps.
use Rattle.std.proofs.Common.{rules}
use Rattle.batch.specs.Steps.{got, stepped, found-asks, answered}
use Rattle.batch.proofs.answer_query.Goals as goal
use Rattle.batch.proofs.answer_query.Goals.{in-Get, in-Next}

pub write_found-requires : goal.write_found-requires
write_found-requires c = found-asks c.args.store.now _ _ _ _ _ (elim c.match-query.branch [
  | in-Get w ↦ rw (w.found-is, w.buffer-is) (got _ _ _ _ (search rules) _ w.in-Get.is w.get_fit-found.ensures.short w.get_fit-found.ensures.meets)
  | in-Next w ↦ rw (w.found-is, w.buffer-is) (stepped _ _ _ _ (search rules) _ _ w.in-Next.is w.next_fit-found.ensures.short w.next_fit-found.ensures.meets)
]) c.requires.2

pub returns : goal.returns
returns c = answered _ _ _ _ _ _ _ _ (elim c.match-query.branch [
  | in-Get w ↦ rw (w.found-is, w.buffer-is) (got _ _ _ _ (search rules) _ w.in-Get.is w.get_fit-found.ensures.short w.get_fit-found.ensures.meets)
  | in-Next w ↦ rw (w.found-is, w.buffer-is) (stepped _ _ _ _ (search rules) _ _ w.in-Next.is w.next_fit-found.ensures.short w.next_fit-found.ensures.meets)
]) c.requires.2 c.write_found.ensures
