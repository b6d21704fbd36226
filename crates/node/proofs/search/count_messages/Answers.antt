-- `search::count_messages` meets its contract: the count stays below the bytes, of which there are not too many. Relies on specs/Search/Messages.
use Rattle.image.specs.Prelude.{arith}
use Rattle.node.specs.Search.Messages.{messages-few, one-more}
use Rattle.node.proofs.search.count_messages.Goals as goal

pub overflow_add-count : goal.overflow_add-count
overflow_add-count c =
    let few = messages-few c.args.entries.rest.now in
    let more = one-more _ _ _ _ c.in-Some.ensures.steps c.in-Message.is in
    let all = c.loop-entry.invariant in
    let fits = c.ranges.entries in
    omega arith
