-- The loop of `run`: the store stays sound and of its size.
use Rattle.std.proofs.Common.{◌≡◌, ◌≤◌, length}
use Rattle.script.specs.Answered.{Held}
use Rattle.console.proofs.run.Given as goal

abbrev pub invariant-loop : goal.invariant-loop
invariant-loop g l =
    Held l.store l.out × (length l.store ≡ length l.initial.store) × (length l.work ≡ length l.initial.work) × (length l.line ≡ length l.initial.line)
    × (length l.chunk ≡ length l.initial.chunk) × (length l.out ≡ length l.initial.out) × (l.used ≤ 256)
