-- The loop of `messages_fit`: the sum so far and what the entries left bring make the sum of all. Relies on specs/Laws/Arriving.
use Rattle.std.specs.Prelude.{leb, length, ◌≡◌, ◌≤◌, ◌<◌, ◌+◌}
use Rattle.laws.specs.Encode.{bytes_of_all}
use Rattle.node.specs.Lent.{left_of}
use Rattle.push.specs.Laws.Arriving.{brought_all}
use Rattle.push.proofs.room.messages_fit.Given as goal

abbrev pub invariant-loop-entry : goal.invariant-loop-entry
invariant-loop-entry l =
    (length (bytes_of_all (left_of l.entry-iterator)) ≤ 1024)
    × (l.sum < 70000)
    × (leb (l.sum + length (brought_all (left_of l.entry-iterator) l.child.low.now l.child.high.now)) 1016 ≡ leb (l.used + length (brought_all (left_of l.fn.entries) l.child.low.now l.child.high.now)) 1016)
