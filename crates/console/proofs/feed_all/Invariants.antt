-- The loop of `feed_all`: the store stays sound and of its size.
use Rattle.std.proofs.Common.{◌≡◌, ◌≤◌, length}
use Rattle.script.specs.Answered.{Held}
use Rattle.console.proofs.feed_all.Given as goal

abbrev pub invariant-loop-byte : goal.invariant-loop-byte
invariant-loop-byte g l =
    Held l.store l.out × (length l.store ≡ length l.initial.store) × (length l.work ≡ length l.initial.work) × (length l.line ≡ length l.initial.line)
    × (length l.out ≡ length l.initial.out) × (l.used ≤ 256)
